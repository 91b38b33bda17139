use Rattle.std.proofs.Common.{◌≡◌, ◌+◌}
use Rattle.std.specs.Vec.Iter.{into_iter_items, into_iter_len}
use Rattle.bucket.specs.declared.limits.TheConstants.{BUCKETS}
use Rattle.label_core.proofs.Settling.{IsSettlingSide}
use Rattle.label_core.proofs.tracing.settled_side.Given as goal

abbrev pub invariant-loop-number : goal.invariant-loop-number
invariant-loop-number l =
    IsSettlingSide l.side l.end l.gain l.fn.buckets.items (into_iter_items l.rest) l.lists.items l.fn.notes.items l.notes.items l.number
    × (into_iter_len l.rest + l.number ≡ BUCKETS)
