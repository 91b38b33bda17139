use Rattle.std.proofs.Common.{◌*◌, length, ◌∙◌, ap, List}
use Rattle.admission.proofs.AntichainStarts.{Gathers-refl, Gathers-trans, HasAntichainsUpTo-empty}
use Rattle.admission.proofs.Rows.{length-members}
use Rattle.admission.specs.Antichains.{members_of}
use Rattle.strip_model.specs.Orbit.{Orbit}
use Rattle.strip_model.specs.declared.strip.Strip.{Strip}
use Rattle.admission.proofs.gathering.gather.Goals as goal

pub loop-number-init : goal.loop-number-init
loop-number-init c = (
  Gathers-refl c.args.core.now c.args.end,
  HasAntichainsUpTo-empty c.args.core.now c.args.end (members_of c.in_ok-antichains.antichains.items)
      (length-members c.in_ok-antichains.antichains.items ∙ c.in_ok-antichains.ensures.0 ∙ ap (λ (strips : List Strip). 2 * length strips) (c.strips-strips.ensures.value ∙ ap (λ (I : Orbit). I.strips) c.instance.ensures))
      c.in_ok-antichains.ensures.1,
)

pub loop-number-preserved : goal.loop-number-preserved
loop-number-preserved c = (
  Gathers-trans c.args.core.now c.loop-number.core c.gather_bucket.new.core c.args.end c.loop-number.invariant.0 c.in_ok-gather_bucket.ensures.gathers,
  c.in_ok-gather_bucket.ensures.antichains,
)

pub returns-in_err-antichains-clause-gathers : goal.returns-in_err-antichains-clause-gathers
returns-in_err-antichains-clause-gathers c = Gathers-refl c.args.core.now c.args.end

pub returns-in_err-gather_bucket-clause-gathers : goal.returns-in_err-gather_bucket-clause-gathers
returns-in_err-gather_bucket-clause-gathers c =
    Gathers-trans c.args.core.now c.loop-number.core c.gather_bucket.new.core c.args.end c.loop-number.invariant.0 c.in_err-gather_bucket.ensures.gathers
