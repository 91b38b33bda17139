use Rattle.std.proofs.Common.{◌≡◌, ◌+◌}
use Rattle.std.specs.List.{All}
use Rattle.std.specs.Prelude.{vec_len}
use Rattle.board.specs.Passes.{BoardName}
use Rattle.pool.specs.Lanes.{IsLaneOf}
use Rattle.pool.proofs.worker.move_all.Given as goal

-- where the lanes in both lists were of a board they still are, and so many are left
abbrev pub invariant-loop : goal.invariant-loop
invariant-loop l =
    ((b : BoardName) → All (IsLaneOf b) l.fn.from.items → All (IsLaneOf b) l.fn.into.items → All (IsLaneOf b) l.from.items × All (IsLaneOf b) l.into.items)
    × (vec_len l.from + l.counter ≡ l.count)
