use Rattle.admission.specs.Antichains.{members_of}
use Rattle.admission.specs.Gathering.{Gathers, HasAntichainsUpTo}
use Rattle.admission.proofs.gathering.gather.Given as goal

-- the labels of the buckets before this one have entered
abbrev pub invariant-loop-number : goal.invariant-loop-number
invariant-loop-number l = Gathers l.fn.core l.core l.end × HasAntichainsUpTo l.core l.end l.number 0 (members_of l.antichains.items)
