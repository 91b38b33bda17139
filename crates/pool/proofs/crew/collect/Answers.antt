use Rattle.std.proofs.Common.{◌≡◌, ◌<◌, ◌∙◌, length, refl, ap, sym, subst, arith}
use Rattle.std.proofs.lemmas.List.Elements.{All-nil}
use Rattle.std.proofs.lemmas.List.Sorted.{All-permutation}
use Rattle.std.specs.List.{All}
use Rattle.board.specs.Passes.{BoardName}
use Rattle.pool.proofs.Crews.{put_back, board_at}
use Rattle.pool.specs.Lanes.{IsLaneOf}
use Rattle.pool.proofs.crew.collect.Goals as goal

pub loop-k-init : goal.loop-k-init
loop-k-init g c = (refl, subst (All (IsLaneOf c.args.board.now)) (sym c.new-lanes.ensures.items) (All-nil (IsLaneOf c.args.board.now)))

pub index_mut-requires : goal.index_mut-requires
index_mut-requires g c =
    let t = c.loop-k-test.true in
    let e = c.len-count.ensures in
    let n = ap length c.loop-k.invariant.0 in
    omega (arith, c.loop-k.workers.ok.0, c.args.workers.now.ok.0)

pub give_lanes-requires : goal.give_lanes-requires
give_lanes-requires g c =
    let t = c.loop-k-test.true in
    let e = c.len-count.ensures in
    let n = ap length c.loop-k.invariant.0 in
    let within : c.loop-k.k < length c.loop-k.workers.items = omega (arith, c.args.workers.now.ok.0) in
    subst (λ (b : BoardName). All (IsLaneOf b) c.loop-k.lanes.items)
    (sym (board_at c.args.board.now c.loop-k.workers.items c.args.workers.now.items c.loop-k.k c.index_mut.result.now c.requires c.loop-k.invariant.0 within c.index_mut.ensures.value))
    c.loop-k.invariant.1

pub loop-k-preserved : goal.loop-k-preserved
loop-k-preserved g c =
    let t = c.loop-k-test.true in
    let e = c.len-count.ensures in
    let n = ap length c.loop-k.invariant.0 in
    let within : c.loop-k.k < length c.loop-k.workers.items = omega (arith, c.args.workers.now.ok.0) in (
      put_back c.loop-k.workers.items c.loop-k.k c.index_mut.result.now c.give_lanes.new.self c.index_mut.ensures.value c.give_lanes.ensures.worker ∙ c.loop-k.invariant.0,
      subst (λ (b : BoardName). All (IsLaneOf b) c.give_lanes.new.lanes.items)
          (board_at c.args.board.now c.loop-k.workers.items c.args.workers.now.items c.loop-k.k c.index_mut.result.now c.requires c.loop-k.invariant.0 within c.index_mut.ensures.value)
          c.give_lanes.ensures.lanes,
    )

pub returns-in_err-give_lanes-clause-workers : goal.returns-in_err-give_lanes-clause-workers
returns-in_err-give_lanes-clause-workers g c =
    put_back c.loop-k.workers.items c.loop-k.k c.index_mut.result.now c.give_lanes.new.self c.index_mut.ensures.value c.give_lanes.ensures.worker ∙ c.loop-k.invariant.0

pub returns-clause-lanes : goal.returns-clause-lanes
returns-clause-lanes g c =
    All-permutation (IsLaneOf c.args.board.now) c.loop-k.lanes.items c.sort_by_key.new.self.items c.sort_by_key.ensures.permutation c.loop-k.invariant.1
