use Rattle.std.proofs.Common.{ℕ, ◌<◌, ◌≤◌, length, get_or}
use Rattle.antichain.specs.Judging.{Refused}
use Rattle.antichain.specs.declared.member.Member.{Member}
use Rattle.antichain.proofs.dominating.nearest.Given as goal

-- none of the members from k on dominates
abbrev pub invariant-loop-k : goal.invariant-loop-k
invariant-loop-k l = record {
  inside : l.k ≤ length l.members;
  refused : (j : ℕ) (d : Member) → l.k ≤ j → j < length l.members → Refused l.side l.outline (get_or l.members j d);
}

-- what is left to look at
abbrev pub decreases-loop-k : goal.decreases-loop-k
decreases-loop-k l = l.k
