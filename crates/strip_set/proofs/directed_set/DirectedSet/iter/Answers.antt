use Rattle.strip_set.specs.declared.directed_set.TheConstants.{MAX_DIRECTED}
use Rattle.strip_set.proofs.Directions.{IsSet-directed}
use Rattle.strip_set.proofs.directed_set.DirectedSet.iter.Goals as goal

pub returns-clause-set : goal.returns-clause-set
returns-clause-set c = rw (← c.self.view_is) (IsSet-directed MAX_DIRECTED _ _)
