use Rattle.std.proofs.Common.{◌≡◌, ◌<◌, ◌∙◌, length, Some, refl, ap, arith}
use Rattle.std.proofs.lemmas.List.Elements.{All-pop}
use Rattle.std.proofs.lemmas.List.Sorted.{All-permutation}
use Rattle.pool.proofs.Crews.{put_back, board_at, lane_at}
use Rattle.pool.specs.Lanes.{IsLaneOf}
use Rattle.pool.proofs.crew.hand_out.Goals as goal

pub take-requires : goal.take-requires
take-requires g c =
    let b = c.args.board.now in
    let inv = c.loop.invariant in
    let n = ap length inv.0 in
    let within : c.idlest_of-idlest.result < length c.loop.workers.items = (let small = rw c.deref.ensures.value at c.idlest_of-idlest.ensures in omega arith) in
    lane_at b c.index_mut.result.now.board c.in-Some.lane
    (board_at b c.loop.workers.items c.args.workers.now.items c.idlest_of-idlest.result c.index_mut.result.now c.requires.workers inv.0 within c.index_mut.ensures.value)
    (All-pop (IsLaneOf b) c.loop.lanes.items c.pop.new.self.items (Some c.in-Some.lane) c.in-Some.ensures.items inv.1).1

pub loop-preserved : goal.loop-preserved
loop-preserved g c =
    let inv = c.loop.invariant in (
      put_back c.loop.workers.items c.idlest_of-idlest.result c.index_mut.result.now c.take.new.self c.index_mut.ensures.value c.take.ensures ∙ inv.0,
      (All-pop (IsLaneOf c.args.board.now) c.loop.lanes.items c.pop.new.self.items (Some c.in-Some.lane) c.in-Some.ensures.items inv.1).0,
      (let a = c.in-Some.ensures.len in let d = inv.2 in omega arith),
    )

pub returns-in_err-take : goal.returns-in_err-take
returns-in_err-take g c =
    put_back c.loop.workers.items c.idlest_of-idlest.result c.index_mut.result.now c.take.new.self c.index_mut.ensures.value c.take.ensures ∙ c.loop.invariant.0

pub loop-init : goal.loop-init
loop-init g c = (
  refl,
  All-permutation (IsLaneOf c.args.board.now) c.args.lanes.items c.sort_by_key.new.self.items c.sort_by_key.ensures.permutation c.requires.lanes,
  (let a = c.len-count.ensures in omega arith),
)
