use Rattle.std.proofs.Common.{ap, ◌∙◌, arith, w64}
use Rattle.std.proofs.lemmas.Bool.{OnTrue_from, OnFalse_from, eqb-true, eqb-false}
use Rattle.strip_set.specs.Stored.{members}
use Rattle.strip_set.specs.declared.strip_set.TheConstants.{MAX_STRIPS}
use Rattle.strip_set.proofs.Words.{members-zero, member-nonzero}
use Rattle.strip_set.proofs.strip_set.StripSet.is_empty.Goals as goal

pub returns-clause-none : goal.returns-clause-none
returns-clause-none c =
    rw (← c.self.view_is)
    (OnTrue_from _ _ (λ zero. ap (members MAX_STRIPS) (eqb-true c.self.inside.bits 0 zero) ∙ members-zero MAX_STRIPS (omega arith)))

pub returns-clause-some : goal.returns-clause-some
returns-clause-some c =
    rw (← c.self.view_is)
    (OnFalse_from _ _ (λ some. member-nonzero w64 c.self.inside.bits (eqb-false c.self.inside.bits 0 some) c.self.invariant))
