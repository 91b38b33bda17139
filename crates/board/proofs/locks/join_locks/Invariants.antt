use Rattle.std.proofs.Common.{◌≡◌, ◌+◌, length}
use Rattle.std.specs.Vec.Iter.{into_iter_items, into_iter_len}
use Rattle.board.specs.Inside.{Joining}
use Rattle.board.proofs.locks.join_locks.Given as goal

abbrev pub invariant-loop-k : goal.invariant-loop-k
invariant-loop-k l =
    Joining l.fn.into.items l.fn.others.items l.into.items (into_iter_items l.rest) l.k × (into_iter_len l.rest + l.k ≡ length l.fn.others.items)
