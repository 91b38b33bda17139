use Rattle.std.proofs.Common.{w64}
use Rattle.strip_set.specs.declared.strip_set.TheConstants.{MAX_STRIPS}
use Rattle.strip_set.proofs.Words.{IsSet-members, test_of_bit}
use Rattle.strip_set.proofs.strip_set.StripSet.contains.Goals as goal

pub returns-clause-value : goal.returns-clause-value
returns-clause-value c = rw (← c.self.view_is) (test_of_bit w64 c.self.inside.bits c.args.n c.requires c.self.invariant)

pub returns-clause-set : goal.returns-clause-set
returns-clause-set c = rw (← c.self.view_is) (IsSet-members MAX_STRIPS c.self.inside.bits)
