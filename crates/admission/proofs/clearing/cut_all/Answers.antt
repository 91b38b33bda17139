use Rattle.std.proofs.Common.{ℕ, get_or, sym, ◌∙◌, ap, subst}
use Rattle.admission.proofs.Marked.{Clears-none, CanCut-next, Clears-cut}
use Rattle.label_core.specs.Events.{CutLabel, CanCut}
use Rattle.label_core.specs.Machine.{stepped}
use Rattle.admission.proofs.Interrupted.{Thins-clears}
use Rattle.admission.proofs.clearing.cut_all.Goals as goal

pub loop-id-init : goal.loop-id-init
loop-id-init c = Clears-none c.args.core.now c.args.end c.args.x c.args.ids.now

pub cut-requires : goal.cut-requires
cut-requires c =
    subst
    (λ (b : ℕ).
    CanCut c.loop-id.core.instance c.loop-id.core.state
    (record { end = c.args.end; bucket = b; index = get_or c.args.ids.now c.loop-id.id-index 0 }))
    (sym c.bucket_of.ensures.value)
    (CanCut-next c.args.core.now c.loop-id.core c.args.end c.args.x c.args.ids.now c.loop-id.id-index c.requires c.loop-id-test.true c.loop-id.invariant)

pub loop-id-preserved : goal.loop-id-preserved
loop-id-preserved c =
    Clears-cut c.args.core.now c.loop-id.core c.args.end c.args.x c.args.ids.now c.loop-id.id-index c.requires c.loop-id-test.true c.loop-id.invariant
    c.cut.new.self
    (c.in_ok-cut.ensures.stepped
    ∙ ap
    (λ (b : ℕ).
    stepped c.loop-id.core (CutLabel (record { end = c.args.end; bucket = b; index = get_or c.args.ids.now c.loop-id.id-index 0 })))
    c.bucket_of.ensures.value)

pub returns-in_err-cut-clause-thins : goal.returns-in_err-cut-clause-thins
returns-in_err-cut-clause-thins c =
    Thins-clears c.args.core.now c.loop-id.core c.cut.new.self c.args.end c.args.x c.args.ids.now c.loop-id.id-index c.loop-id.invariant
    c.in_err-cut.ensures.unchanged
