use Rattle.std.proofs.Common.{map}
use Rattle.joiner.proofs.FirstOver.{AreNotOver}
use Rattle.joiner.proofs.first.first_over_of.Given as goal

abbrev pub invariant-loop-place : goal.invariant-loop-place
invariant-loop-place l = AreNotOver l.side.instance (map (λ r. r.now) l.forward) (map (λ r. r.now) l.backward) l.floor l.place
