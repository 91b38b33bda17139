use Rattle.std.proofs.Common.{sym, ◌∙◌}
use Rattle.stereo_twins.proofs.TwinLemmas.{IsNeeding-takes, IsNeeding-skips}
use Rattle.stereo_twins.proofs.twin_map.TwinMap.needs.Goals as goal

pub loop-x-preserved-in-Some-twin : goal.loop-x-preserved-in-Some-twin
loop-x-preserved-in-Some-twin c =
    let so_far = rw c.in-Some.ensures.steps at c.loop-x.invariant in
    IsNeeding-takes c.args.self.now c.args.lone c.in-Some.x c.in-Some-twin.twin c.next.new.self c.loop-x.needs c.with-needs.result so_far
    (sym c.in-Some-twin.ensures.value) c.with-needs.ensures.set c.with-needs.ensures.members

pub loop-x-preserved : goal.loop-x-preserved
loop-x-preserved c =
    let so_far = rw c.in-Some.ensures.steps at c.loop-x.invariant in
    IsNeeding-skips c.args.self.now c.args.lone c.in-Some.x c.next.new.self c.loop-x.needs so_far
    (sym c.twin.ensures.value ∙ c.in_default.is)
