use Rattle.strip_set.specs.declared.strip_set.TheConstants.{MAX_STRIPS}
use Rattle.strip_set.proofs.Directions.{directed-nil}
use Rattle.strip_set.proofs.directed_set.DirectedSet.empty.Goals as goal

pub returns : goal.returns
returns c = directed-nil MAX_STRIPS c.empty.result c.empty-2.result c.empty.ensures c.empty-2.ensures
