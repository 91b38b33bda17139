use Rattle.std.proofs.Common.{sym}
use Rattle.strip_set.specs.declared.strip_set.TheConstants.{MAX_STRIPS}
use Rattle.strip_set.proofs.Words.{IsSet-members, length-members}
use Rattle.strip_set.proofs.strip_set.StripSet.len.Goals as goal

pub returns-clause-value : goal.returns-clause-value
returns-clause-value c = rw (← c.self.view_is) (sym (length-members MAX_STRIPS c.self.inside.bits c.self.invariant))

pub returns-clause-set : goal.returns-clause-set
returns-clause-set c = rw (← c.self.view_is) (IsSet-members MAX_STRIPS c.self.inside.bits)
