use Rattle.std.proofs.Common.{ℕ, ◌<◌, [], get_or, All}
use Rattle.closer.proofs.FirstWaits.{MemberWaits}
use Rattle.closer.specs.MoreWaits.{AddsWaits}
use Rattle.closer.specs.Searching.{IsTodo}
use Rattle.admission.specs.Antichains.{members_of}
use Rattle.closer.proofs.opening.wait_side.Given as goal

-- the root waits, and so do the members of the antichains so far, beside what waited before
abbrev pub invariant-loop-x : goal.invariant-loop-x
invariant-loop-x l = record {
  adds : AddsWaits l.core l.fn.queue l.queue;
  root : IsTodo l.core l.queue l.end [];
  members : (y : ℕ) → y < l.x → All (MemberWaits l.core l.end y l.queue) (get_or (members_of l.antichains) y []);
}
