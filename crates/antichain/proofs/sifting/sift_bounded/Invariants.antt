use Rattle.std.proofs.Common.{◌≡◌, ◌<◌, ◌≤◌}
use Rattle.std.specs.Vec.{vec_capacity}
use Rattle.antichain.proofs.Sifts.{Sifting}
use Rattle.antichain.specs.declared.member.Member.{Member}
use Rattle.antichain.proofs.sifting.sift_bounded.Given as goal

-- the members before k are parted
abbrev pub invariant-loop-k : goal.invariant-loop-k
invariant-loop-k l = record {
  sifting : Sifting (λ (m : Member). m.outline.bound ≤ l.gain) (λ (m : Member). l.gain < m.outline.bound) l.fn.members.items l.members.items l.fn.ids.items l.ids.items l.k l.kept;
  room : vec_capacity l.members ≡ vec_capacity l.fn.members;
  ids_room : vec_capacity l.fn.ids ≤ vec_capacity l.ids;
}
