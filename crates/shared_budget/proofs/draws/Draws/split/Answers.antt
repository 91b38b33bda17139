use Rattle.std.proofs.Common.{◌≡◌, ◌∙◌, sym, arith}
use Rattle.shared_budget.proofs.Sharing.{splits}
use Rattle.shared_budget.proofs.draws.Draws.split.Goals as goal

pub split_seat-seat-requires : goal.split_seat-seat-requires
split_seat-seat-requires c =
    let seat = c.drawer.inside.seat in
    let weight : seat.me.0.weight ≡ c.args.drawer.now.weight = (λ i. (c.drawer.view_is i).weight) in
    let two = c.requires.weight in (
      (λ i. (c.drawer.view_is i).table) ∙ c.requires.own ∙ sym c.self.view_is,
      (let words = c.self.invariant.0 in omega arith),
      splits _ _ _ (omega arith),
    )
