use Rattle.antichain.proofs.Least.{LeastSoFar}
use Rattle.antichain.proofs.dominating.least.Given as goal

-- the least of the members so far
abbrev pub invariant-loop-member : goal.invariant-loop-member
invariant-loop-member l = LeastSoFar l.side l.outline l.members l.member-index l.least
