use Rattle.admission.specs.Antichains.{members_of}
use Rattle.closer.proofs.Swept.{SweepsAntichains}
use Rattle.closer.proofs.sweeping.sweep_side.Given as goal

-- the antichains before this one are pruned
abbrev pub invariant-loop-x : goal.invariant-loop-x
invariant-loop-x l = SweepsAntichains l.fn.core l.core l.end l.x (members_of l.antichains.items)
