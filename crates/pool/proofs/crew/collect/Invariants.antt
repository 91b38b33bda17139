use Rattle.std.proofs.Common.{◌≡◌}
use Rattle.std.specs.List.{All}
use Rattle.pool.specs.Lanes.{IsLaneOf}
use Rattle.pool.proofs.crew.collect.Given as goal

-- the workers are as they were, and the lanes that they gave are of the board
abbrev pub invariant-loop-k : goal.invariant-loop-k
invariant-loop-k g l = (l.workers.items ≡ l.fn.workers.items) × All (IsLaneOf l.board) l.lanes.items
