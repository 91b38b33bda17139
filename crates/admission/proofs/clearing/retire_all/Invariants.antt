use Rattle.admission.specs.Clearing.{Clears}
use Rattle.admission.specs.Contests.{last_at}
use Rattle.admission.proofs.clearing.retire_all.Given as goal

-- those so far are retired
abbrev pub invariant-loop-id : goal.invariant-loop-id
invariant-loop-id l = Clears l.fn.core l.core l.by.end (last_at l.fn.core l.by) l.ids l.id-index
