use Rattle.std.proofs.Common.{◌≡◌, take}
use Rattle.label_core.specs.CoreState.{buckets_of}
use Rattle.label_core.specs.LogOf.{items_of, all_paths}
use Rattle.label_core.proofs.logging.paths_of.Given as goal

abbrev pub invariant-loop-bucket : goal.invariant-loop-bucket
invariant-loop-bucket l = items_of l.paths.items ≡ all_paths (take l.bucket (buckets_of l.core.state l.end))
