use Rattle.std.proofs.Common.{◌≡◌, ◌+◌, length}
use Rattle.std.specs.Prelude.{vec_len, vec_capacity}
use Rattle.std.specs.Vec.Iter.{into_iter_items, into_iter_len}
use Rattle.board.specs.Inside.{Closing}
use Rattle.board.proofs.locks.close_locks.Given as goal

abbrev pub invariant-loop : goal.invariant-loop
invariant-loop l =
    Closing l.fn.passes.items (into_iter_items l.passes_left) (into_iter_items l.locks_left) l.made.items l.counter
    × (into_iter_len l.passes_left + l.counter ≡ length l.fn.passes.items) × (into_iter_len l.locks_left + l.counter ≡ length l.fn.passes.items)
    × (vec_len l.made ≡ l.counter) × (vec_capacity l.made ≡ vec_capacity l.fn.room)
