use Rattle.std.proofs.Common.{◌≡◌, ◌≤◌}
use Rattle.std.specs.Vec.{vec_capacity}
use Rattle.antichain.proofs.Sifts.{Sifting}
use Rattle.antichain.specs.Judging.{Beaten, Unbeaten}
use Rattle.antichain.proofs.sifting.sift_beaten.Given as goal

-- the members before k are parted
abbrev pub invariant-loop-k : goal.invariant-loop-k
invariant-loop-k l = record {
  sifting : Sifting (Beaten l.side l.outline) (Unbeaten l.side l.outline) l.fn.members.items l.members.items l.fn.ids.items l.ids.items l.k l.kept;
  room : vec_capacity l.members ≡ vec_capacity l.fn.members;
  ids_room : vec_capacity l.fn.ids ≤ vec_capacity l.ids;
}
