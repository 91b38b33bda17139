use Rattle.std.proofs.Common.{◌≢◌, ℕ, ◌<◌, ◌≤◌, get_or}
use Rattle.antichain.specs.declared.member.Member.{Member}
use Rattle.antichain.proofs.places.place_of.Given as goal

-- no member before this one has the id
abbrev pub invariant-loop-k : goal.invariant-loop-k
invariant-loop-k l = (j : ℕ) (d : Member) → l.from ≤ j → j < l.k → (get_or l.members j d).id ≢ l.id
