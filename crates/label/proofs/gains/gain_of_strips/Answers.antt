use Rattle.std.proofs.Common.{◌∙◌, slice_index, arith}
use Rattle.label.proofs.SetSums.{set_area-le}
use Rattle.label.specs.Gaining.{set_area}
use Rattle.strip_model.proofs.Shares.{gain_with_same}
use Rattle.label.proofs.gains.gain_of_strips.Goals as goal

pub gain_with-requires-clause-within : goal.gain_with-requires-clause-within
gain_with-requires-clause-within c r = omega (arith, c.areas_of_strips-areas.ensures.areas r, set_area-le c.args.instance.now c.args.set r)

pub returns-clause-value : goal.returns-clause-value
returns-clause-value c =
    let J = c.args.instance.now in
    c.gain_with.ensures.value
    ∙ gain_with_same J (slice_index c.areas_of_strips-areas.result) (set_area J c.args.set) (λ r l. c.areas_of_strips-areas.ensures.areas r)
