use Rattle.std.proofs.Common.{length}
use Rattle.label.proofs.SetSums.{IsAdding}
use Rattle.label.specs.Gaining.{strip_value}
use Rattle.label.proofs.gains.value_of_strips.Given as goal

abbrev pub invariant-loop-strip : goal.invariant-loop-strip
invariant-loop-strip l = IsAdding (length l.instance.strips) (strip_value l.instance) l.fn.set l.strip-iterator l.value
