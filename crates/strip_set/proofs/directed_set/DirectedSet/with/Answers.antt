use Rattle.std.proofs.Common.{true}
use Rattle.strip_set.specs.declared.directed_set.TheConstants.{MAX_DIRECTED}
use Rattle.strip_set.specs.declared.strip_set.TheConstants.{MAX_STRIPS}
use Rattle.strip_set.proofs.Directions.{IsSet-directed, direction_0_edit, direction_1_edit}
use Rattle.strip_set.proofs.directed_set.DirectedSet.with.Goals as goal

pub returns-then-n-eq0-clause-members : goal.returns-then-n-eq0-clause-members
returns-then-n-eq0-clause-members c =
    let old = c.self.inside in
    rw (← c.self.view_is)
    (direction_0_edit MAX_STRIPS old.direction_0 old.direction_1 c.self.invariant c.with.result c.with.ensures.set c.args.n true c.if-n-eq0.true c.with.ensures.members)

pub returns-then-n-eq0-clause-set : goal.returns-then-n-eq0-clause-set
returns-then-n-eq0-clause-set c = IsSet-directed MAX_DIRECTED _ _

pub returns-else-n-eq0-clause-members : goal.returns-else-n-eq0-clause-members
returns-else-n-eq0-clause-members c =
    let old = c.self.inside in
    let new = c.with-else-n-eq0 in
    rw (← c.self.view_is)
    (direction_1_edit MAX_STRIPS old.direction_0 old.direction_1 c.self.invariant new.result new.ensures.set c.args.n true c.if-n-eq0.false new.ensures.members)

pub returns-else-n-eq0-clause-set : goal.returns-else-n-eq0-clause-set
returns-else-n-eq0-clause-set c = IsSet-directed MAX_DIRECTED _ _
