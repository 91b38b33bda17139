use Rattle.std.proofs.Common.{ap, ◌∙◌}
use Rattle.label_core.proofs.ClosedRuns.{IsProof-closed}
use Rattle.label_core.proofs.Cores.{IsOrderly-reached}
use Rattle.label_core.proofs.LogParts.{paths_from_sides}
use Rattle.label_core.specs.LogOf.{IsLogOf}
use Rattle.proof_log.specs.declared.log.Log.{Log}
use Rattle.strip_model.specs.Side.{Face}
use Rattle.label_core.proofs.logging.log_of.Goals as goal

pub returns-clause-proof : goal.returns-clause-proof
returns-clause-proof c = λ closed.
    let log : Log = record {
      cut = c.cut.result;
      gain = c.gain.result;
      plan = c.in_ok-plan.plan;
      forward = c.in_ok-forward.forward;
      backward = c.in_ok-backward.backward;
      marks = c.in_ok-marks.marks;
    } in
    let is : IsLogOf c.args.core.now.instance c.args.core.now.cut c.args.core.now.state log = record {
      cut = c.cut.ensures ∙ ap (λ (S : Face). S.cut) c.side.ensures;
      gain = c.gain.ensures.value;
      plan = c.in_ok-plan.ensures.items ∙ c.plan.ensures.value;
      paths = paths_from_sides c.args.core.now.state log c.in_ok-forward.ensures c.in_ok-backward.ensures;
      marks = c.in_ok-marks.ensures;
    } in
    IsProof-closed c.args.core.now.instance c.args.core.now.cut c.args.core.now.state log (IsOrderly-reached c.args.core.now c.gain.ensures.reached) is
    closed
