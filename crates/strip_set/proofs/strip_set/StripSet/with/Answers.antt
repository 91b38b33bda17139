use Rattle.std.proofs.Common.{w64}
use Rattle.strip_set.specs.declared.strip_set.TheConstants.{MAX_STRIPS}
use Rattle.strip_set.proofs.Words.{IsSet-members, has-with, with-fits}
use Rattle.strip_set.proofs.strip_set.StripSet.with.Goals as goal

pub invariant_of-result : goal.invariant_of-result
invariant_of-result c = with-fits w64 c.self.inside.bits c.args.n c.requires c.self.invariant

pub returns-clause-members : goal.returns-clause-members
returns-clause-members c =
    rw (← c.self.view_is) (has-with w64 c.self.inside.bits c.args.n c.requires c.self.invariant)

pub returns-clause-set : goal.returns-clause-set
returns-clause-set c = IsSet-members MAX_STRIPS _
