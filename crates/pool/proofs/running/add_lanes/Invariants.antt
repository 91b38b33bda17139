use Rattle.std.specs.List.{All}
use Rattle.pool.specs.Lanes.{IsLaneOf}
use Rattle.pool.proofs.running.add_lanes.Given as goal

-- all lanes so far are of the board
abbrev pub invariant-loop-number : goal.invariant-loop-number
invariant-loop-number l = All (IsLaneOf l.board) l.lanes.items
