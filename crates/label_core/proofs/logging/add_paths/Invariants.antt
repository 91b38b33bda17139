use Rattle.std.proofs.Common.{◌≡◌, ◌++◌, map, take}
use Rattle.label_core.specs.CoreState.{labels_in}
use Rattle.label_core.specs.LogOf.{items_of}
use Rattle.label_core.proofs.logging.add_paths.Given as goal

abbrev pub invariant-loop-index : goal.invariant-loop-index
invariant-loop-index l = items_of l.paths.items ≡ items_of l.fn.paths.items ++ map (λ h. h.path) (take l.index (labels_in l.core.state l.end l.bucket))
