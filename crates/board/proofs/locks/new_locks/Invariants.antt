use Rattle.std.proofs.Common.{◌≡◌, ◌≤◌, [], length}
use Rattle.std.specs.Prelude.{vec_len, vec_capacity}
use Rattle.board.specs.Sharing.{first_locks}
use Rattle.bucket.specs.declared.limits.TheConstants.{BUCKETS}
use Rattle.board.proofs.locks.new_locks.Given as goal

abbrev pub invariant-loop-number : goal.invariant-loop-number
invariant-loop-number l =
    (l.passes.items ≡ first_locks l.side 0 l.locks.items) × (length l.locks.items ≡ l.number)
    × (vec_len l.locks ≡ l.number) × (vec_len l.passes ≡ l.number)
    × (vec_capacity l.locks ≡ BUCKETS) × (vec_capacity l.passes ≡ BUCKETS)
    × (l.room.items ≡ []) × (BUCKETS ≤ vec_capacity l.room)
