use Rattle.std.proofs.Common.{◌∙◌, refl}
use Rattle.closer.specs.declared.outcome.Outcome.TheVariants.{Optimal, Open}
use Rattle.sequencer.proofs.Searched.{IsProved-end, IsUnsettled-end, gain_is}
use Rattle.sequencer.proofs.solution.solution_of.Goals as goal

pub returns-in_ok-log-in-Optimal : goal.returns-in_ok-log-in-Optimal
returns-in_ok-log-in-Optimal c = λ workers budget cut J inst range found.
    let core = c.in-Optimal.core in
    let here = rw c.in-Optimal.is at found in
    IsProved-end workers budget cut J (Optimal core) core range here refl here.found.finishes.0 c.in_ok-log-in-Optimal.log inst
    c.in_ok-log-in-Optimal.ensures.log (c.in_ok-log-in-Optimal.ensures.proof here.found.finishes.1)

pub returns-in_ok-plan-in-Open : goal.returns-in_ok-plan-in-Open
returns-in_ok-plan-in-Open c = λ workers budget cut J inst range found.
    let core = c.in-Open.core in
    let here = rw c.in-Open.is at found in
    let plan = c.in_ok-plan-in-Open.ensures.items ∙ c.plan.ensures.value in (
      IsUnsettled-end workers budget cut J (Open core) core range here refl here.found.finishes.0 c.in_ok-plan-in-Open.plan.items c.labels.result
          plan c.labels.ensures.value here.found.finishes.1,
      gain_is workers budget cut J (Open core) core range here refl here.found.finishes.0 c.in_ok-plan-in-Open.plan.items c.gain.result plan
          c.gain.ensures.value,
    )
