use Rattle.std.proofs.Common.{◌≡◌, ◌<◌, ◌∙◌, length, List, refl, ap, sym, subst, arith}
use Rattle.std.proofs.lemmas.List.Elements.{All-nil}
use Rattle.std.specs.List.{All}
use Rattle.board.specs.Passes.{side_at}
use Rattle.label.specs.Labels.{IsLabelOf}
use Rattle.pool.proofs.Crews.{put_back, all_at}
use Rattle.pool.specs.Lanes.{LaneName, IsLaneOf}
use Rattle.pool.proofs.rounds.take_ready.Goals as goal

pub index_mut-requires : goal.index_mut-requires
index_mut-requires c =
    let t = c.loop-k-test.true in
    let e = c.len-count.ensures in
    let n = ap length c.loop-k.invariant.0 in
    omega (arith, c.loop-k.lanes.ok.0, c.args.lanes.now.ok.0)

pub take_from-requires-clause-lane : goal.take_from-requires-clause-lane
take_from-requires-clause-lane c =
    let t = c.loop-k-test.true in
    let e = c.len-count.ensures in
    let n = ap length c.loop-k.invariant.0 in
    let within : c.loop-k.k < length c.loop-k.lanes.items = omega (arith, c.args.lanes.now.ok.0) in
    all_at (IsLaneOf c.args.board.now) c.loop-k.lanes.items c.loop-k.k c.index_mut.result.now within c.index_mut.ensures.value
    (subst (λ (l : List LaneName). All (IsLaneOf c.args.board.now) l) (sym c.loop-k.invariant.0) c.requires)

pub loop-k-preserved : goal.loop-k-preserved
loop-k-preserved c = (
  put_back c.loop-k.lanes.items c.loop-k.k c.index_mut.result.now c.take_from.new.lane c.index_mut.ensures.value c.take_from.ensures.lane ∙ c.loop-k.invariant.0,
  c.take_from.ensures.labels,
)

pub returns-in_err-take_from-clause-lanes : goal.returns-in_err-take_from-clause-lanes
returns-in_err-take_from-clause-lanes c =
    put_back c.loop-k.lanes.items c.loop-k.k c.index_mut.result.now c.take_from.new.lane c.index_mut.ensures.value c.take_from.ensures.lane ∙ c.loop-k.invariant.0

pub loop-k-init : goal.loop-k-init
loop-k-init c =
    let Is = IsLabelOf (side_at c.args.board.now c.args.end) in
    (refl, subst (All Is) (sym c.new-labels.ensures.items) (All-nil Is))
