use Rattle.std.proofs.Common.{map, arith}
use Rattle.strip_model.proofs.Gains.{area_in-le-whole_area, whole_area-le}
use Rattle.strip_model.proofs.gain.area_in.Goals as goal

pub overflow_add-area : goal.overflow_add-area
overflow_add-area g c =
    let J = c.args.instance.now in
    let order = map g.X.AtDirected.directed c.args.sequence.now in
    omega (
      arith,
      c.loop-item.invariant.sum,
      area_in-le-whole_area J c.args.request order c.requires.exist c.requires.distinct,
      whole_area-le J c.args.request c.strips-strips.ensures.sound,
    )

pub returns-clause-bound : goal.returns-clause-bound
returns-clause-bound g c =
    omega (
      arith,
      c.loop-item.invariant.sum,
      area_in-le-whole_area c.args.instance.now c.args.request (map g.X.AtDirected.directed c.args.sequence.now) c.requires.exist c.requires.distinct,
    )
