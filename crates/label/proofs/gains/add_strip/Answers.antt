use Rattle.std.proofs.Common.{arith}
use Rattle.label.proofs.SetSums.{area-le}
use Rattle.strip_model.proofs.Gains.{whole_area-le}
use Rattle.label.proofs.gains.add_strip.Goals as goal

pub overflow_add-areas : goal.overflow_add-areas
overflow_add-areas c =
    let J = c.args.instance.now in
    let r = c.from-then-from-strips-3.result in
    let strips = c.strips-strips.ensures in
    omega (
      arith,
      c.requires.room r,
      whole_area-le J r strips.sound,
      area-le J c.strips-strips.result.now c.from-then-from-strips.result strips.sound strips.value (omega arith),
      c.from-then-from-strips-2.ensures,
    )
