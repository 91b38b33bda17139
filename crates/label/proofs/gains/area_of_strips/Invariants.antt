use Rattle.std.proofs.Common.{length}
use Rattle.label.proofs.SetSums.{IsAdding}
use Rattle.strip_model.specs.Orbit.{area_at}
use Rattle.label.proofs.gains.area_of_strips.Given as goal

abbrev pub invariant-loop-strip : goal.invariant-loop-strip
invariant-loop-strip l = IsAdding (length l.instance.strips) (area_at l.instance) l.fn.set l.strip-iterator l.area
