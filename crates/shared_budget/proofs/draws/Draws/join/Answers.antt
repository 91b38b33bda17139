use Rattle.std.proofs.Common.{◌≡◌, ◌+◌, ◌∙◌, sym, arith}
use mathlib.Core.Option.{none}
use Rattle.atomic_table.specs.Table.{step}
use Rattle.shared_budget.proofs.Sharing.{joins, weighs}
use Rattle.shared_budget.proofs.draws.Draws.join.Goals as goal

pub join_seat-requires : goal.join_seat-requires
join_seat-requires c = (
  (λ i. (c.into.view_is i).table) ∙ c.requires.own ∙ sym c.self.view_is,
  (λ i. (c.other.view_is i).table) ∙ c.requires.other ∙ sym c.self.view_is,
  c.other.invariant.no_slot,
  (let words = c.self.invariant.0 in omega arith),
  joins _ _ _ _ _ c.into.invariant.positive,
)

pub load-requires : goal.load-requires
load-requires c =
    let joined = c.join_seat.ensures.2 in
    let weight : c.join_seat.new.seat.me.0.weight ≡ c.into.inside.seat.me.0.weight + c.other.inside.seat.me.0.weight = (λ i. (joined i).0.weight) in
    let positive = c.into.invariant.positive in (
      c.join_seat.ensures.0 ∙ (λ i. (c.into.view_is i).table) ∙ c.requires.own ∙ sym c.self.view_is,
      (let words = c.self.invariant.0 in omega arith),
      weighs _ _ _ _ (step 0 0 0 0 none) (omega arith),
    )
