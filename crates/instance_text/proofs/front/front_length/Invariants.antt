use Rattle.std.proofs.Common.{length}
use Rattle.instance_text.proofs.Fronts.{NoEndBefore}
use Rattle.instance_text.proofs.front.front_length.Given as goal

abbrev pub invariant-loop-rest : goal.invariant-loop-rest
invariant-loop-rest l = NoEndBefore l.bytes l.rest

abbrev pub decreases-loop-rest : goal.decreases-loop-rest
decreases-loop-rest l = length l.rest
