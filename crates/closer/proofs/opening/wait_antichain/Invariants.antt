use Rattle.std.proofs.Common.{All, take}
use Rattle.closer.proofs.FirstWaits.{MemberWaits}
use Rattle.closer.specs.MoreWaits.{AddsWaits}
use Rattle.closer.proofs.opening.wait_antichain.Given as goal

-- the members so far wait, beside what waited before
abbrev pub invariant-loop-member : goal.invariant-loop-member
invariant-loop-member l = record {
  adds : AddsWaits l.core l.fn.queue l.queue;
  waits : All (MemberWaits l.core l.end l.x l.queue) (take l.member-index l.antichain.members);
}
