use Rattle.std.proofs.Common.{ap}
use Rattle.strip_set.specs.Members.{has}
use Rattle.strip_set.specs.declared.directed_set.TheConstants.{MAX_DIRECTED}
use Rattle.strip_set.specs.declared.strip_set.TheConstants.{MAX_STRIPS}
use Rattle.strip_set.proofs.Directions.{IsSet-directed, directed-nil, least_direction_0, least_direction_1, least_both}
use Rattle.strip_set.proofs.directed_set.DirectedSet.first.Goals as goal

pub returns-in-None-None-clause-least : goal.returns-in-None-None-clause-least
returns-in-None-None-clause-least c =
    rw (← c.self.view_is) (directed-nil MAX_STRIPS _ _ (rw c.in-None-None.is-0 at c.first.ensures.least) c.in-None-None.ensures.least)

pub returns-in-None-None-clause-set : goal.returns-in-None-None-clause-set
returns-in-None-None-clause-set c = rw (← c.self.view_is) (IsSet-directed MAX_DIRECTED _ _)

pub returns-in-None-Some-clause-least : goal.returns-in-None-Some-clause-least
returns-in-None-Some-clause-least c =
    let old = c.self.inside in
    let none = rw c.in-None-Some.is-0 at c.first.ensures.least in
    rw (← c.self.view_is)
    (least_direction_1 MAX_STRIPS old.direction_0 old.direction_1 c.self.invariant c.in-None-Some.odd c.in-None-Some.ensures.least (λ i _. ap (has i) none))

pub returns-in-None-Some-clause-set : goal.returns-in-None-Some-clause-set
returns-in-None-Some-clause-set c = rw (← c.self.view_is) (IsSet-directed MAX_DIRECTED _ _)

pub returns-in-Some-None-clause-least : goal.returns-in-Some-None-clause-least
returns-in-Some-None-clause-least c =
    let old = c.self.inside in
    let none = c.in-Some-None.ensures'.least in
    rw (← c.self.view_is)
    (least_direction_0 MAX_STRIPS old.direction_0 old.direction_1 c.self.invariant c.in-Some-None.even c.in-Some-None.ensures.least (λ i _. ap (has i) none))

pub returns-in-Some-None-clause-set : goal.returns-in-Some-None-clause-set
returns-in-Some-None-clause-set c = rw (← c.self.view_is) (IsSet-directed MAX_DIRECTED _ _)

pub returns-in-Some-Some-clause-least : goal.returns-in-Some-Some-clause-least
returns-in-Some-Some-clause-least c =
    let old = c.self.inside in
    let some = c.in-Some-Some in
    rw (← c.self.view_is, c.min.ensures)
    (least_both MAX_STRIPS old.direction_0 old.direction_1 c.self.invariant some.even some.odd some.ensures.least some.ensures'.least)

pub returns-in-Some-Some-clause-set : goal.returns-in-Some-Some-clause-set
returns-in-Some-Some-clause-set c = rw (← c.self.view_is) (IsSet-directed MAX_DIRECTED _ _)
