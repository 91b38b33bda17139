use Rattle.std.proofs.Common.{◌||◌}
use Rattle.strip_set.specs.declared.directed_set.TheConstants.{MAX_DIRECTED}
use Rattle.strip_set.specs.declared.strip_set.TheConstants.{MAX_STRIPS}
use Rattle.strip_set.proofs.Directions.{IsSet-directed, combined}
use Rattle.strip_set.proofs.directed_set.DirectedSet.join.Goals as goal

pub returns-clause-members : goal.returns-clause-members
returns-clause-members c =
    let a = c.self.inside in
    let b = c.other.inside in
    rw (← c.self.view_is, ← c.other.view_is)
    (combined MAX_STRIPS a.direction_0 a.direction_1 b.direction_0 b.direction_1 c.self.invariant c.other.invariant ◌||◌
    c.join.result c.join-2.result record { direction_0_set = c.join.ensures.set; direction_1_set = c.join-2.ensures.set } c.join.ensures.members c.join-2.ensures.members)

pub returns-clause-set : goal.returns-clause-set
returns-clause-set c = IsSet-directed MAX_DIRECTED _ _
