use Rattle.std.proofs.Common.{◌≡◌, ◌<◌, ◌∙◌, length, Some, ap, arith}
use Rattle.std.proofs.lemmas.List.Elements.{All-pop}
use Rattle.pool.proofs.Crews.{put_back, board_at, lane_at}
use Rattle.pool.specs.Lanes.{IsLaneOf}
use Rattle.pool.proofs.crew.hand_to_first.Goals as goal

pub take-requires : goal.take-requires
take-requires g c =
    let b = c.args.board.now in
    let inv = c.loop.invariant in
    let n = ap length inv.0 in
    let within : 0 < length c.loop.workers.items = (let some = c.requires.some in omega arith) in
    lane_at b c.index_mut.result.now.board c.in-Some.lane
    (board_at b c.loop.workers.items c.args.workers.now.items 0 c.index_mut.result.now c.requires.workers inv.0 within c.index_mut.ensures.value)
    (All-pop (IsLaneOf b) c.loop.lanes.items c.pop.new.self.items (Some c.in-Some.lane) c.in-Some.ensures.items inv.1).1

pub loop-preserved : goal.loop-preserved
loop-preserved g c =
    let inv = c.loop.invariant in (
      put_back c.loop.workers.items 0 c.index_mut.result.now c.take.new.self c.index_mut.ensures.value c.take.ensures ∙ inv.0,
      (All-pop (IsLaneOf c.args.board.now) c.loop.lanes.items c.pop.new.self.items (Some c.in-Some.lane) c.in-Some.ensures.items inv.1).0,
      (let a = c.in-Some.ensures.len in let d = inv.2 in omega arith),
    )

pub returns-in_err-take : goal.returns-in_err-take
returns-in_err-take g c =
    put_back c.loop.workers.items 0 c.index_mut.result.now c.take.new.self c.index_mut.ensures.value c.take.ensures ∙ c.loop.invariant.0
