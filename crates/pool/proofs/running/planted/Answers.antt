use Rattle.std.proofs.Common.{◌≡◌, ◌<◌, ◌∙◌, length, refl, arith}
use Rattle.pool.proofs.Crews.{all_put_back, all_at}
use Rattle.pool.proofs.Growing.{grows_self, grows_trans}
use Rattle.pool.specs.Growth.{Grows}
use Rattle.pool.specs.Lanes.{IsLaneOf}
use Rattle.pool.proofs.running.planted.Goals as goal

pub loop-k-init : goal.loop-k-init
loop-k-init g c = (grows_self c.args.pass.now, refl, c.in_ok-lanes.ensures, (let a = c.len-count.ensures in omega arith))

pub plant_into-requires-clause-board : goal.plant_into-requires-clause-board
plant_into-requires-clause-board g c = c.loop-k.invariant.0.board ∙ c.requires.board

pub plant_into-requires-clause-lane : goal.plant_into-requires-clause-lane
plant_into-requires-clause-lane g c =
    let t = c.loop-k-test.true in
    let n = c.loop-k.invariant.3 in
    let within : c.loop-k.k < length c.loop-k.lanes.items = omega (arith, c.loop-k.lanes.ok.0) in
    all_at (IsLaneOf c.args.board.now) c.loop-k.lanes.items c.loop-k.k c.index_mut.result.now within c.index_mut.ensures.value c.loop-k.invariant.2

pub loop-k-preserved : goal.loop-k-preserved
loop-k-preserved g c =
    let works = c.plant_into.ensures.acts.works in (
      grows_trans c.args.pass.now c.loop-k.pass c.plant_into.new.pass c.loop-k.invariant.0 works.grows,
      works.weight ∙ c.loop-k.invariant.1,
      all_put_back (IsLaneOf c.args.board.now) c.loop-k.lanes.items c.loop-k.k c.index_mut.result.now c.plant_into.new.lane c.index_mut.ensures.value c.plant_into.ensures.lane
          c.loop-k.invariant.2,
      (let a = c.loop-k.invariant.3 in omega arith),
    )

pub returns-then-is_err-clause-grows : goal.returns-then-is_err-clause-grows
returns-then-is_err-clause-grows g c =
    grows_trans c.args.pass.now c.loop-k.pass c.plant_into.new.pass c.loop-k.invariant.0 c.plant_into.ensures.acts.works.grows

pub returns-then-is_err-clause-weight : goal.returns-then-is_err-clause-weight
returns-then-is_err-clause-weight g c = c.plant_into.ensures.acts.works.weight ∙ c.loop-k.invariant.1

pub returns-then-is_err-clause-lanes : goal.returns-then-is_err-clause-lanes
returns-then-is_err-clause-lanes g c =
    all_put_back (IsLaneOf c.args.board.now) c.loop-k.lanes.items c.loop-k.k c.index_mut.result.now c.plant_into.new.lane c.index_mut.ensures.value c.plant_into.ensures.lane
    c.loop-k.invariant.2

pub returns-in_err-lanes-clause-grows : goal.returns-in_err-lanes-clause-grows
returns-in_err-lanes-clause-grows g c = grows_self c.args.pass.now
