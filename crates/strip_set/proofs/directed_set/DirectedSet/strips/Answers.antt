use Rattle.std.proofs.Common.{sym, ◌∙◌}
use Rattle.strip_set.specs.declared.strip_set.TheConstants.{MAX_STRIPS}
use Rattle.strip_set.proofs.Directions.{has_strip-directed}
use Rattle.strip_set.proofs.directed_set.DirectedSet.strips.Goals as goal

pub returns-clause-strips : goal.returns-clause-strips
returns-clause-strips c =
    let old = c.self.inside in
    λ i. rw (← c.self.view_is) (c.join.ensures.members i ∙ sym (has_strip-directed MAX_STRIPS old.direction_0 old.direction_1 c.self.invariant i))
