use Rattle.std.proofs.Common.{sym, subst}
use Rattle.std.proofs.lemmas.List.Elements.{All-push}
use Rattle.std.specs.List.{All}
use Rattle.label.specs.Labels.{IsLabelOf}
use Rattle.pool.specs.declared.lane.Waiting.{Waiting}
use Rattle.strip_model.specs.Side.{Face}
use Rattle.pool.proofs.lane.Lane.wait.Goals as goal

pub invariant_of-self-2 : goal.invariant_of-self-2
invariant_of-self-2 c =
    let S = c.self.inside.side.now in
    let Is : Waiting → Type 0 = λ w. IsLabelOf S w.label in
    let of_side = subst (λ (F : Face). IsLabelOf F c.args.label) (sym (λ i. (c.self.view_is i).side)) c.requires in (
      c.self.invariant.0,
      subst (All Is) (sym c.in_ok-push.ensures.items) (All-push Is c.self.inside.waiting.items (record { index = c.args.index; label = c.args.label }) c.self.invariant.1 of_side),
      c.self.invariant.2,
    )
