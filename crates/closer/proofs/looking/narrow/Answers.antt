use Rattle.std.proofs.Common.{List, length, ◌∙◌, ap, subst}
use Rattle.closer.proofs.Looks.{looked_at-first, named_looks, Narrows-left}
use Rattle.closer.specs.Looking.{AreLeft, looked_at}
use Rattle.closer.specs.declared.looking.Look.{Look}
use Rattle.closer.proofs.looking.narrow.Goals as goal

pub look_at_all-requires-clause-named : goal.look_at_all-requires-clause-named
look_at_all-requires-clause-named g c κs within =
    named_looks c.args.core.now c.in_ok-looks.looks.items c.args.queue.now
    (ap (λ (looks : List Look). looked_at looks) c.in_ok-looks.ensures ∙ (looked_at-first c.as_slice.result.now ∙ c.as_slice.ensures)) c.requires.named

pub returns : goal.returns
returns g c =
    Narrows-left c.args.core.now c.in_ok-looks.looks.items c.look_at_all.new.looks.items c.args.queue.now c.in_ok-queue.field-0
    (ap (λ (looks : List Look). looked_at looks) c.in_ok-looks.ensures ∙ (looked_at-first c.as_slice.result.now ∙ c.as_slice.ensures))
    c.look_at_all.ensures.len c.look_at_all.ensures.looked
    (subst (λ (looks : List Look). AreLeft looks (length looks) c.in_ok-queue.field-0) c.deref.ensures.value c.in_ok-queue.ensures)
