use Rattle.std.proofs.Common.{sym, ap₂, ◌∙◌, ◌+◌}
use Rattle.strip_set.specs.declared.directed_set.TheConstants.{MAX_DIRECTED}
use Rattle.strip_set.specs.declared.strip_set.TheConstants.{MAX_STRIPS}
use Rattle.strip_set.proofs.Directions.{IsSet-directed, length-directed}
use Rattle.strip_set.proofs.directed_set.DirectedSet.len.Goals as goal

pub returns-clause-value : goal.returns-clause-value
returns-clause-value c =
    let old = c.self.inside in
    rw (← c.self.view_is)
    (ap₂ ◌+◌ c.len.ensures.value c.len-2.ensures.value ∙ sym (length-directed MAX_STRIPS old.direction_0 old.direction_1 c.self.invariant))

pub returns-clause-set : goal.returns-clause-set
returns-clause-set c = rw (← c.self.view_is) (IsSet-directed MAX_DIRECTED _ _)
