use Rattle.std.proofs.Common.{ap, ◌∙◌, arith, w64}
use Rattle.strip_set.specs.Stored.{members}
use Rattle.strip_set.specs.declared.strip_set.TheConstants.{MAX_STRIPS}
use Rattle.strip_set.proofs.Words.{IsSet-members, members-zero, least-trailing_zeros}
use Rattle.strip_set.proofs.strip_set.StripSet.first.Goals as goal

pub returns-then-self-eq0-clause-least : goal.returns-then-self-eq0-clause-least
returns-then-self-eq0-clause-least c =
    rw (← c.self.view_is) (ap (members MAX_STRIPS) c.if-self-eq0.true ∙ members-zero MAX_STRIPS (omega arith))

pub returns-then-self-eq0-clause-set : goal.returns-then-self-eq0-clause-set
returns-then-self-eq0-clause-set c = rw (← c.self.view_is) (IsSet-members MAX_STRIPS c.self.inside.bits)

pub returns-clause-least : goal.returns-clause-least
returns-clause-least c =
    rw (← c.self.view_is) (least-trailing_zeros w64 c.self.inside.bits c.if-self-eq0.false c.self.invariant)

pub returns-clause-set : goal.returns-clause-set
returns-clause-set c = rw (← c.self.view_is) (IsSet-members MAX_STRIPS c.self.inside.bits)
