use Rattle.std.proofs.Common.{◌<◌, ◌+◌, ◌*◌, length, arith}
use Rattle.std.proofs.lemmas.Grind.{common_steps}
use Rattle.strip_model.proofs.Durations.{durations_written}
use Rattle.strip_model.proofs.making.put_durations.Goals as goal

pub loop-i-preserved : goal.loop-i-preserved
loop-i-preserved c =
    let i = c.loop-i.i in
    let room : 2 * i + 1 < length c.loop-i.durations = omega (arith, c.requires.room, c.loop-i-test.true, c.loop-i.auto.durations) in
    record {
      durations =
          durations_written c.loop-i.durations c.args.strips.now c.windows_of.result i c.loop-i-test.true room
          c.windows_of.ensures.value c.loop-i.invariant.durations;
      two_windows = grind (arith, common_steps);
    }
