use Rattle.std.proofs.Common.{◌∙◌, sym, ap, ◌&&◌, nat_eq}
use Rattle.std.specs.Cmp.Lexicographic.{pointwise}
use Rattle.strip_set.proofs.Directions.{same_directed, IsSet-directed}
use Rattle.strip_set.proofs.Members.{test_where_members}
use Rattle.strip_set.specs.declared.directed_set.TheConstants.{MAX_DIRECTED}
use Rattle.strip_set.specs.declared.strip_set.TheConstants.{MAX_STRIPS}
use Rattle.strip_set.proofs.directed_set.DirectedSetPartialEq.eq.Goals as goal

pub returns-then-eq-clause-value : goal.returns-then-eq-clause-value
returns-then-eq-clause-value c =
    let a = c.self.inside in
    let b = c.other.inside in
    rw (← c.self.view_is, ← c.other.view_is)
    (c.eq-then-eq.ensures.value
    ∙ sym (ap (λ t. t && pointwise nat_eq a.direction_1 b.direction_1) (sym c.eq.ensures.value ∙ c.if-eq.true))
    ∙ same_directed MAX_STRIPS a.direction_0 a.direction_1 b.direction_0 b.direction_1 c.self.invariant c.other.invariant)

pub returns-then-eq-clause-members : goal.returns-then-eq-clause-members
returns-then-eq-clause-members c =
    test_where_members MAX_DIRECTED c.args.self.now c.args.other.now _ (returns-then-eq-clause-value c)
    (rw (← c.self.view_is) (IsSet-directed MAX_DIRECTED _ _))
    (rw (← c.other.view_is) (IsSet-directed MAX_DIRECTED _ _))

pub returns-else-eq-clause-value : goal.returns-else-eq-clause-value
returns-else-eq-clause-value c =
    let a = c.self.inside in
    let b = c.other.inside in
    rw (← c.self.view_is, ← c.other.view_is)
    (c.if-eq.false ∙ sym (ap (λ t. t && pointwise nat_eq a.direction_1 b.direction_1) (sym c.eq.ensures.value ∙ c.if-eq.false))
    ∙ same_directed MAX_STRIPS a.direction_0 a.direction_1 b.direction_0 b.direction_1 c.self.invariant c.other.invariant)

pub returns-else-eq-clause-members : goal.returns-else-eq-clause-members
returns-else-eq-clause-members c =
    test_where_members MAX_DIRECTED c.args.self.now c.args.other.now _ (returns-else-eq-clause-value c)
    (rw (← c.self.view_is) (IsSet-directed MAX_DIRECTED _ _))
    (rw (← c.other.view_is) (IsSet-directed MAX_DIRECTED _ _))
