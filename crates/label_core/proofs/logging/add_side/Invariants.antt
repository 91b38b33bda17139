use Rattle.std.proofs.Common.{◌≡◌, ◌++◌, map}
use Rattle.label_core.specs.LogOf.{mark_of, by_bucket}
use Rattle.label_core.proofs.logging.add_side.Given as goal

abbrev pub invariant-loop-bucket : goal.invariant-loop-bucket
invariant-loop-bucket l = l.marks.items ≡ l.fn.marks.items ++ map (mark_of l.core.state) (by_bucket l.fn.end l.bucket l.core.state.notes)
