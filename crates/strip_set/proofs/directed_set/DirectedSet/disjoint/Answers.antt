use Rattle.std.proofs.lemmas.Bool.{OnTrue_from, OnFalse_from, OnTrue_at, OnFalse_at}
use Rattle.strip_set.specs.declared.strip_set.TheConstants.{MAX_STRIPS}
use Rattle.strip_set.proofs.Directions.{apart_both, common_direction_0, common_direction_1}
use Rattle.strip_set.proofs.directed_set.DirectedSet.disjoint.Goals as goal

pub returns-then-disjoint-clause-apart : goal.returns-then-disjoint-clause-apart
returns-then-disjoint-clause-apart c =
    let a = c.self.inside in
    let b = c.other.inside in
    rw (← c.self.view_is, ← c.other.view_is)
    (OnTrue_from _ _ (λ apart.
    apart_both MAX_STRIPS a.direction_0 a.direction_1 b.direction_0 b.direction_1 c.self.invariant c.other.invariant
    c.if-disjoint.ensures.apart (OnTrue_at apart c.disjoint-then-disjoint.ensures.apart)))

pub returns-then-disjoint-clause-common : goal.returns-then-disjoint-clause-common
returns-then-disjoint-clause-common c =
    let a = c.self.inside in
    let b = c.other.inside in
    rw (← c.self.view_is, ← c.other.view_is)
    (OnFalse_from _ _ (λ common.
    common_direction_1 MAX_STRIPS a.direction_0 a.direction_1 b.direction_0 b.direction_1 c.self.invariant c.other.invariant
    (OnFalse_at common c.disjoint-then-disjoint.ensures.common)))

pub returns-else-disjoint-clause-common : goal.returns-else-disjoint-clause-common
returns-else-disjoint-clause-common c =
    let a = c.self.inside in
    let b = c.other.inside in
    rw (← c.self.view_is, ← c.other.view_is)
    (OnFalse_from _ _ (λ _.
    common_direction_0 MAX_STRIPS a.direction_0 a.direction_1 b.direction_0 b.direction_1 c.self.invariant c.other.invariant
    c.if-disjoint.ensures.common))
