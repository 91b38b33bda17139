use Rattle.std.proofs.Common.{sym}
use Rattle.stereo_twins.proofs.TwinLemmas.{IsOpening-takes, IsOpening-skips}
use Rattle.stereo_twins.proofs.twin_map.TwinMap.open.Goals as goal

pub loop-x-preserved-then-lacks_twin : goal.loop-x-preserved-then-lacks_twin
loop-x-preserved-then-lacks_twin c =
    let so_far = rw c.in-Some.ensures.steps at c.loop-x.invariant in
    IsOpening-takes c.args.self.now c.args.set c.in-Some.x c.next.new.self c.loop-x.open c.with-open.result so_far
    (sym c.if-lacks_twin.ensures) c.with-open.ensures.set c.with-open.ensures.members

pub loop-x-preserved : goal.loop-x-preserved
loop-x-preserved c =
    let so_far = rw c.in-Some.ensures.steps at c.loop-x.invariant in
    IsOpening-skips c.args.self.now c.args.set c.in-Some.x c.next.new.self c.loop-x.open so_far (sym c.if-lacks_twin.ensures)
