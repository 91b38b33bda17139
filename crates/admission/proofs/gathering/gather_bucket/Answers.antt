use Rattle.admission.proofs.AntichainStarts.{Gathers-trans}
use Rattle.admission.proofs.gathering.gather_bucket.Goals as goal

pub loop-index-preserved : goal.loop-index-preserved
loop-index-preserved c = (
  Gathers-trans c.args.core.now c.loop-index.core c.gather_label.new.core c.args.end c.loop-index.invariant.0 c.in_ok-gather_label.ensures.gathers,
  c.in_ok-gather_label.ensures.antichains,
)

pub returns-in_err-gather_label-clause-gathers : goal.returns-in_err-gather_label-clause-gathers
returns-in_err-gather_label-clause-gathers c =
    Gathers-trans c.args.core.now c.loop-index.core c.gather_label.new.core c.args.end c.loop-index.invariant.0 c.in_err-gather_label.ensures.gathers
