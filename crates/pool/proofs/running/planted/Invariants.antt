use Rattle.std.proofs.Common.{◌≡◌}
use Rattle.std.specs.List.{All}
use Rattle.std.specs.Prelude.{vec_len}
use Rattle.pool.specs.Growth.{Grows}
use Rattle.pool.specs.Lanes.{IsLaneOf}
use Rattle.pool.proofs.running.planted.Given as goal

-- the pass has grown and weighs what it did, and the lanes are of the board
abbrev pub invariant-loop-k : goal.invariant-loop-k
invariant-loop-k g l = Grows l.fn.pass l.pass × (l.pass.weight ≡ l.fn.pass.weight) × All (IsLaneOf l.board) l.lanes.items × (l.count ≡ vec_len l.lanes)
