use Rattle.std.proofs.Common.{◌≡◌}
use Rattle.std.specs.List.{All}
use Rattle.pool.specs.Lanes.{IsLaneOf}
use Rattle.pool.proofs.rounds.make_rounds.Given as goal

-- the workers are as they were, and the lanes are of the board
abbrev pub invariant-loop : goal.invariant-loop
invariant-loop g l = (l.crew ≡ l.fn.crew) × All (IsLaneOf l.board) l.lanes.items
