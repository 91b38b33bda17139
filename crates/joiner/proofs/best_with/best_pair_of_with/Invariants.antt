use Rattle.std.proofs.Common.{◌*◌, map, take}
use Rattle.joiner.specs.Pairs.{IsBest}
use Rattle.joiner.proofs.best_with.best_pair_of_with.Given as goal

abbrev pub invariant-loop-k : goal.invariant-loop-k
invariant-loop-k g l =
    IsBest l.side.instance (take (l.k * l.size) (map (λ r. r.now) l.forward)) (map (λ r. r.now) l.backward) l.floor l.best
