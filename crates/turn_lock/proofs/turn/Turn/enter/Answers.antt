use Rattle.std.proofs.Common.{◌∙◌, ◌∷◌, Some, sym, arith}
use mathlib.Core.Option.{none}
use Rattle.atomic_table.specs.Table.{step, rest}
use Rattle.turn_lock.proofs.Drawing.{draws}
use Rattle.turn_lock.proofs.Passes.{idle_stage}
use Rattle.turn_lock.proofs.turn.Turn.enter.Goals as goal

pub fetch_add-ticket-requires : goal.fetch_add-ticket-requires
fetch_add-ticket-requires g c =
    let seat = c.pass.inside.seat in
    let inv = c.pass.invariant in
    let idle = idle_stage seat.me.0.stage seat.me.1 c.args.pass.now.turn inv.stage (λ i. (c.pass.view_is i).turn) c.requires.idle in (
      (λ i. (c.pass.view_is i).lock) ∙ c.requires.lock ∙ sym c.self.view_is,
      (let words = c.self.invariant.0 in omega arith),
      draws g.T.Chronicle.history g.T.Chronicle.frame (g.T.Chronicle.frame c.self.inside.table.shared.key.value) c.self.inside.table.shared.table_id.slots seat.id seat.me (step 0 0 0 0 none)
          idle.0 inv.positive,
    )

pub exchange-requires : goal.exchange-requires
exchange-requires g c =
    let drawn = c.fetch_add-ticket.ensures.2 in
    let taken = c.await_turn.ensures.taken drawn.0 (λ i. (drawn.2 i).0.stage) in (
      c.await_turn.ensures.table ∙ c.fetch_add-ticket.ensures.0 ∙ (λ i. (c.pass.view_is i).lock) ∙ c.requires.lock ∙ sym c.self.view_is,
      (Some taken.0, (λ i. (taken.1 i).1) ∙ (λ i. (0, Some taken.0) ∷ rest (sym taken.1 i).1)),
    )
