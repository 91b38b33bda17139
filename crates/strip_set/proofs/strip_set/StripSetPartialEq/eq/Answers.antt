use Rattle.std.proofs.Common.{w64}
use Rattle.strip_set.proofs.Members.{test_where_members}
use Rattle.strip_set.proofs.Words.{same_words, IsSet-members}
use Rattle.strip_set.specs.declared.strip_set.TheConstants.{MAX_STRIPS}
use Rattle.strip_set.proofs.strip_set.StripSetPartialEq.eq.Goals as goal

pub returns-clause-value : goal.returns-clause-value
returns-clause-value c =
    rw (← c.self.view_is, ← c.other.view_is)
    (same_words w64 c.self.inside.bits c.other.inside.bits c.self.invariant c.other.invariant)

pub returns-clause-members : goal.returns-clause-members
returns-clause-members c =
    test_where_members MAX_STRIPS c.args.self.now c.args.other.now _ (returns-clause-value c)
    (rw (← c.self.view_is) (IsSet-members MAX_STRIPS c.self.inside.bits))
    (rw (← c.other.view_is) (IsSet-members MAX_STRIPS c.other.inside.bits))
