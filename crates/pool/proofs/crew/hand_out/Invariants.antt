use Rattle.std.proofs.Common.{◌≡◌, ◌+◌}
use Rattle.std.specs.List.{All}
use Rattle.std.specs.Prelude.{vec_len}
use Rattle.pool.specs.Lanes.{IsLaneOf}
use Rattle.pool.proofs.crew.hand_out.Given as goal

-- the workers are as they were, and so many lanes are left, all of the board
abbrev pub invariant-loop : goal.invariant-loop
invariant-loop g l = (l.workers.items ≡ l.fn.workers.items) × All (IsLaneOf l.board) l.lanes.items × (vec_len l.lanes + l.counter ≡ l.count)
