use Rattle.std.proofs.Common.{w64}
use Rattle.std.proofs.lemmas.Bool.{OnTrue_from, OnFalse_from, eqb-true, eqb-false}
use Rattle.strip_set.proofs.Words.{apart-zero, common-nonzero}
use Rattle.strip_set.proofs.strip_set.StripSet.disjoint.Goals as goal

pub returns-clause-apart : goal.returns-clause-apart
returns-clause-apart c =
    let a = c.self.inside.bits in
    let b = c.other.inside.bits in
    rw (← c.self.view_is, ← c.other.view_is)
    (OnTrue_from _ _ (λ zero. apart-zero w64 a b c.self.invariant c.other.invariant (eqb-true _ 0 zero)))

pub returns-clause-common : goal.returns-clause-common
returns-clause-common c =
    let a = c.self.inside.bits in
    let b = c.other.inside.bits in
    rw (← c.self.view_is, ← c.other.view_is)
    (OnFalse_from _ _ (λ some. common-nonzero w64 a b c.self.invariant c.other.invariant (eqb-false _ 0 some)))
