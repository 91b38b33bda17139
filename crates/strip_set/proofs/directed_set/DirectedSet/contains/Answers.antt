use Rattle.std.proofs.Common.{◌∙◌, sym, arith}
use Rattle.strip_set.specs.declared.directed_set.TheConstants.{MAX_DIRECTED}
use Rattle.strip_set.specs.declared.strip_set.TheConstants.{MAX_STRIPS}
use Rattle.strip_set.proofs.Directions.{IsSet-directed, has-even, has-odd}
use Rattle.strip_set.proofs.directed_set.DirectedSet.contains.Goals as goal

pub returns-then-n-eq0-clause-value : goal.returns-then-n-eq0-clause-value
returns-then-n-eq0-clause-value c =
    let old = c.self.inside in
    rw (← c.self.view_is)
    (c.contains.ensures.value ∙ sym (has-even MAX_STRIPS old.direction_0 old.direction_1 c.self.invariant c.args.n c.if-n-eq0.true))

pub returns-then-n-eq0-clause-set : goal.returns-then-n-eq0-clause-set
returns-then-n-eq0-clause-set c = rw (← c.self.view_is) (IsSet-directed MAX_DIRECTED _ _)

pub returns-else-n-eq0-clause-value : goal.returns-else-n-eq0-clause-value
returns-else-n-eq0-clause-value c =
    let old = c.self.inside in
    rw (← c.self.view_is)
    (c.contains-else-n-eq0.ensures.value ∙ sym (has-odd MAX_STRIPS old.direction_0 old.direction_1 c.self.invariant c.args.n (omega arith)))

pub returns-else-n-eq0-clause-set : goal.returns-else-n-eq0-clause-set
returns-else-n-eq0-clause-set c = rw (← c.self.view_is) (IsSet-directed MAX_DIRECTED _ _)
