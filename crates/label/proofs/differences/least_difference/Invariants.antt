use Rattle.label.proofs.SetDifferences.{IsSummed}
use Rattle.label.specs.Gaining.{set_area, set_difference}
use Rattle.label.proofs.differences.least_difference.Given as goal

-- the least differences of the requests so far
abbrev pub invariant-loop-request : goal.invariant-loop-request
invariant-loop-request l = IsSummed (set_difference l.side.instance l.fn.b l.fn.a (set_area l.side.instance l.fn.room)) l.request l.sum
