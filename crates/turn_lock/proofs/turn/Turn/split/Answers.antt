use Rattle.std.proofs.Common.{◌≡◌, ◌∙◌, sym, arith}
use Rattle.turn_lock.proofs.Sharing.{splits}
use Rattle.turn_lock.proofs.turn.Turn.split.Goals as goal

pub split_seat-seat-requires : goal.split_seat-seat-requires
split_seat-seat-requires g c =
    let seat = c.pass.inside.seat in
    let weight : seat.me.0.weight ≡ c.args.pass.now.weight = (λ i. (c.pass.view_is i).weight) in
    let two = c.requires.weight in (
      (λ i. (c.pass.view_is i).lock) ∙ c.requires.lock ∙ sym c.self.view_is,
      (let words = c.self.invariant.0 in omega arith),
      splits g.T.Chronicle.history g.T.Chronicle.frame (g.T.Chronicle.frame c.self.inside.table.shared.key.value) seat.id seat.me.0 (omega arith),
    )
