use Rattle.std.proofs.Common.{◌≡◌}
use Rattle.turn_lock.proofs.turn.await_turn.Given as goal

-- nothing changes until the ticket is served
abbrev pub invariant-loop : goal.invariant-loop
invariant-loop g l = (l.seat.table_id ≡ l.fn.seat.table_id) × (l.seat.me ≡ l.fn.seat.me)
