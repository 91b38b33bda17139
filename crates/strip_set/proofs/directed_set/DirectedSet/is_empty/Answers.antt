use Rattle.std.proofs.lemmas.Bool.{OnTrue_from, OnFalse_from, OnTrue_at, OnFalse_at}
use Rattle.strip_set.specs.declared.strip_set.TheConstants.{MAX_STRIPS}
use Rattle.strip_set.proofs.Directions.{directed-nil, some_direction_0, some_direction_1}
use Rattle.strip_set.proofs.directed_set.DirectedSet.is_empty.Goals as goal

pub returns-then-is_empty-clause-none : goal.returns-then-is_empty-clause-none
returns-then-is_empty-clause-none c =
    rw (← c.self.view_is)
    (OnTrue_from _ _ (λ none. directed-nil MAX_STRIPS _ _ c.if-is_empty.ensures.none (OnTrue_at none c.is_empty-then-is_empty.ensures.none)))

pub returns-then-is_empty-clause-some : goal.returns-then-is_empty-clause-some
returns-then-is_empty-clause-some c =
    let old = c.self.inside in
    rw (← c.self.view_is)
    (OnFalse_from _ _ (λ some. some_direction_1 MAX_STRIPS old.direction_0 old.direction_1 c.self.invariant (OnFalse_at some c.is_empty-then-is_empty.ensures.some)))

pub returns-else-is_empty-clause-some : goal.returns-else-is_empty-clause-some
returns-else-is_empty-clause-some c =
    let old = c.self.inside in
    rw (← c.self.view_is)
    (OnFalse_from _ _ (λ _. some_direction_0 MAX_STRIPS old.direction_0 old.direction_1 c.self.invariant c.if-is_empty.ensures.some))
