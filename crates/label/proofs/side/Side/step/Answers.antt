use Rattle.std.proofs.Common.{◌∙◌, ap, subst}
use Rattle.label.proofs.Entries.{entry_read}
use Rattle.label.specs.Tables.{step_at, AreEntries}
use Rattle.strip_model.specs.Side.{Face}
use Rattle.label.proofs.side.Side.step.Goals as goal

pub returns : goal.returns
returns c =
    let J = c.args.self.now.instance in
    let entries = subst (λ (S : Face). AreEntries S.instance (step_at S.instance) c.self.inside.steps.items) c.self.view_is c.self.invariant.are_steps in
    entry_read J (step_at J) c.self.inside.steps.items c.args.x c.args.y entries c.requires.from c.requires.to
    c.strips.result.now c.from.result c.from-2.result c.index.result.now (c.from.ensures ∙ c.x.view_is) (c.from-2.ensures ∙ c.y.view_is)
    (c.strips.ensures.value ∙ ap (λ (S : Face). S.instance.strips) c.self.view_is) c.index.ensures
