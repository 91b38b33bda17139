use Rattle.std.proofs.Common.{◌≡◌, map, take}
use Rattle.closer.proofs.joining.references_to.Given as goal

abbrev pub invariant-loop-label : goal.invariant-loop-label
invariant-loop-label l = map (λ r. r.now) l.references.items ≡ take l.label-index l.labels
