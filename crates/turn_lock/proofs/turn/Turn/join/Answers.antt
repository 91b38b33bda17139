use Rattle.std.proofs.Common.{◌≡◌, ◌+◌, ◌∙◌, sym, arith}
use mathlib.Core.Option.{none}
use Rattle.atomic_table.specs.Table.{step}
use Rattle.turn_lock.proofs.Sharing.{joins, compares}
use Rattle.turn_lock.proofs.Passes.{idle_stage}
use Rattle.turn_lock.proofs.turn.Turn.join.Goals as goal

pub join_seat-requires : goal.join_seat-requires
join_seat-requires g c =
    let seat = c.into.inside.seat in
    let other = c.other.inside.seat in
    let idle = idle_stage seat.me.0.stage seat.me.1 c.args.into.now.turn c.into.invariant.stage (λ i. (c.into.view_is i).turn) c.requires.idle in
    let idle' = idle_stage other.me.0.stage other.me.1 c.args.other.turn c.other.invariant.stage (λ i. (c.other.view_is i).turn) c.requires.other_idle in (
      (λ i. (c.into.view_is i).lock) ∙ c.requires.lock ∙ sym c.self.view_is,
      (λ i. (c.other.view_is i).lock) ∙ c.requires.other_lock ∙ sym c.self.view_is,
      idle'.1,
      (let words = c.self.invariant.0 in omega arith),
      joins g.T.Chronicle.history g.T.Chronicle.frame (g.T.Chronicle.frame c.self.inside.table.shared.key.value) seat.id seat.me.0 other.id other.me.0 idle.0 idle'.0 c.into.invariant.positive,
    )

pub load-requires : goal.load-requires
load-requires g c =
    let joined = c.join_seat.ensures.2 in
    let weight : c.join_seat.new.seat.me.0.weight ≡ c.into.inside.seat.me.0.weight + c.other.inside.seat.me.0.weight = (λ i. (joined i).0.weight) in
    let pos = c.into.invariant.positive in (
      c.join_seat.ensures.0 ∙ (λ i. (c.into.view_is i).lock) ∙ c.requires.lock ∙ sym c.self.view_is,
      (let words = c.self.invariant.0 in omega arith),
      compares g.T.Chronicle.history g.T.Chronicle.frame (g.T.Chronicle.frame c.self.inside.table.shared.key.value) c.self.inside.table.shared.table_id.slots c.join_seat.new.seat.id
          c.join_seat.new.seat.me (step 0 0 0 0 none) (omega arith),
    )
