use Rattle.std.proofs.Common.{rules, arith}
use Rattle.closer.proofs.Looks.{extended_more}
use Rattle.closer.proofs.SearchSteps.{IsExtended-below}
use Rattle.closer.proofs.looking.is_extended.Goals as goal

pub returns-then-not-branch-clause-lacks : goal.returns-then-not-branch-clause-lacks
returns-then-not-branch-clause-lacks c = λ _. (c.loop-y.y, c.in_ok-is_extended_by.ensures.lacks (search rules))

pub loop-y-preserved : goal.loop-y-preserved
loop-y-preserved c = record {
  strips = c.loop-y.invariant.strips;
  parent = c.loop-y.invariant.parent;
  done =
      extended_more c.args.core.now c.args.now c.loop-y.y c.loop-y.invariant.done (c.in_ok-is_extended_by.ensures.whole (search rules));
}

pub returns-clause-whole : goal.returns-clause-whole
returns-clause-whole c =
    λ _.
    IsExtended-below c.args.core.now c.args.now c.loop-y.y (omega (arith, c.loop-y-test.false, c.loop-y.invariant.strips))
    c.loop-y.invariant.done
