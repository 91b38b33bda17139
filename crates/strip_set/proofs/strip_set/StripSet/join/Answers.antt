use Rattle.std.proofs.Common.{w64}
use Rattle.strip_set.specs.declared.strip_set.TheConstants.{MAX_STRIPS}
use Rattle.strip_set.proofs.Words.{IsSet-members, has-join, join-fits}
use Rattle.strip_set.proofs.strip_set.StripSet.join.Goals as goal

pub invariant_of-result : goal.invariant_of-result
invariant_of-result c = join-fits w64 _ _ c.self.invariant c.other.invariant

pub returns-clause-members : goal.returns-clause-members
returns-clause-members c =
    rw (← c.self.view_is, ← c.other.view_is) (has-join w64 c.self.inside.bits c.other.inside.bits c.self.invariant c.other.invariant)

pub returns-clause-set : goal.returns-clause-set
returns-clause-set c = IsSet-members MAX_STRIPS _
