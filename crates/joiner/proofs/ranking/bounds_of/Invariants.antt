use Rattle.std.proofs.Common.{map}
use Rattle.joiner.specs.Represented.{AreRanked}
use Rattle.joiner.proofs.ranking.bounds_of.Given as goal

abbrev pub invariant-loop-label : goal.invariant-loop-label
invariant-loop-label l = AreRanked l.side.instance (map (λ r. r.now) l.forward) l.label-index l.order.items
