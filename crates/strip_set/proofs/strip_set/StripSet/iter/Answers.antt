use Rattle.strip_set.specs.declared.strip_set.TheConstants.{MAX_STRIPS}
use Rattle.strip_set.proofs.Words.{IsSet-members}
use Rattle.strip_set.proofs.strip_set.StripSet.iter.Goals as goal

pub returns-clause-set : goal.returns-clause-set
returns-clause-set c = rw (← c.self.view_is) (IsSet-members MAX_STRIPS c.self.inside.bits)
