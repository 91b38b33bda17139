use Rattle.std.proofs.Common.{◌≡◌, ◌+◌, take, length}
use Rattle.label_core.specs.CoreState.{buckets_of}
use Rattle.label_core.specs.LogOf.{all_paths}
use Rattle.label_core.proofs.logging.number_of.Given as goal

abbrev pub invariant-loop-bucket : goal.invariant-loop-bucket
invariant-loop-bucket l = l.number ≡ length (all_paths (take l.bucket (buckets_of l.core.state l.id.end))) + l.id.index
