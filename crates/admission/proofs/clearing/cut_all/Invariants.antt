use Rattle.admission.specs.Clearing.{Clears}
use Rattle.admission.proofs.clearing.cut_all.Given as goal

-- those so far are cut
abbrev pub invariant-loop-id : goal.invariant-loop-id
invariant-loop-id l = Clears l.fn.core l.core l.end l.x l.ids l.id-index
