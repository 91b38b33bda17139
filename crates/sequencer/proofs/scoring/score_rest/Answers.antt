use Rattle.std.proofs.Common.{List, sym, subst}
use Rattle.plan_check.specs.PlanText.{IsPlanText}
use Rattle.strip_model.specs.declared.acquisition.Acquisition.{Acquisition}
use Rattle.sequencer.proofs.scoring.score_rest.Goals as goal

pub returns : goal.returns
returns c =
    let plan = c.deref.result.now in
    let said = subst (λ (p : List Acquisition). IsPlanText c.args.rest.now p) (sym c.deref.ensures.value) c.in-Ok.ensures.text in
    c.faulty.ensures c.args.instance.now c.args.rest.now plan said c.in-Err.ensures.fault
