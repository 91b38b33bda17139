use Rattle.admission.specs.Antichains.{members_of}
use Rattle.admission.specs.Gathering.{Gathers, HasAntichainsUpTo}
use Rattle.admission.proofs.gathering.gather_bucket.Given as goal

-- the labels before this one have entered
abbrev pub invariant-loop-index : goal.invariant-loop-index
invariant-loop-index l = Gathers l.fn.core l.core l.end × HasAntichainsUpTo l.core l.end l.number l.index (members_of l.antichains.items)
