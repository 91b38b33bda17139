use Rattle.std.proofs.Common.{◌≡◌}
use Rattle.std.specs.Prelude.{vec_len, vec_capacity}
use Rattle.board.specs.Inside.{Splitting}
use Rattle.board.proofs.locks.split_locks.Given as goal

abbrev pub invariant-loop-k : goal.invariant-loop-k
invariant-loop-k l =
    Splitting l.fn.passes.items l.passes.items l.made.items l.k × (vec_len l.made ≡ l.k) × (vec_capacity l.made ≡ vec_capacity l.fn.room)
