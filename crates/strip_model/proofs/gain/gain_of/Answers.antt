use Rattle.std.proofs.Common.{map, arith}
use Rattle.strip_model.proofs.Gains.{area_in-le-whole_area}
use Rattle.strip_model.proofs.gain.gain_of.Goals as goal

pub gain_with-requires-clause-within : goal.gain_with-requires-clause-within
gain_with-requires-clause-within g c r =
    omega (
      arith,
      c.areas_in-areas.ensures.areas r,
      area_in-le-whole_area c.args.instance.now r (map g.X.AtDirected.directed c.args.sequence.now) c.requires.exist c.requires.distinct,
    )
