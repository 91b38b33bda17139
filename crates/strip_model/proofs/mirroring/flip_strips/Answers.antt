-- No window of the strips is over after the horizon.
use Rattle.std.proofs.Common.{le_trans, arith}
use Rattle.strip_model.proofs.Horizons.{greatest_end-above}
use Rattle.strip_model.proofs.mirroring.flip_strips.Goals as goal

pub flip_strip-requires-clause-forth : goal.flip_strip-requires-clause-forth
flip_strip-requires-clause-forth c =
    le_trans (greatest_end-above c.args.strips.now c.loop-strip.strip-index 0 c.loop-strip-test.true (omega arith)) c.requires

pub flip_strip-requires-clause-back : goal.flip_strip-requires-clause-back
flip_strip-requires-clause-back c =
    le_trans (greatest_end-above c.args.strips.now c.loop-strip.strip-index 1 c.loop-strip-test.true (omega arith)) c.requires
