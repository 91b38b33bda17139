use Rattle.std.proofs.Common.{length, ap, arith}
use Rattle.admission.proofs.AntichainOrder.{strips-facing}
use Rattle.strip_model.specs.Side.{Face}
use Rattle.closer.proofs.extension.extension.Goals as goal

pub start-requires : goal.start-requires
start-requires c =
    omega (
      arith,
      c.requires.exists,
      ap (λ (S : Face). length S.instance.strips) c.side-side.ensures,
      strips-facing c.args.core.now.instance c.id.result.end,
    )

pub extend-requires-clause-next : goal.extend-requires-clause-next
extend-requires-clause-next c =
    omega (
      arith,
      c.requires.exists,
      ap (λ (S : Face). length S.instance.strips) c.side-side.ensures,
      strips-facing c.args.core.now.instance c.id.result.end,
    )
