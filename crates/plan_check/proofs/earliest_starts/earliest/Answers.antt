use Rattle.std.proofs.Common.{List, sym, ◌∙◌, ap, true≢false}
use Rattle.plan_check.proofs.LeastPlan.{IsLeastPlan-earliest}
use Rattle.strip_model.proofs.InTime.{none_in_time}
use Rattle.plan_check.proofs.earliest_starts.earliest.Goals as goal
use Rattle.strip_model.specs.Plan.{order_of}
use Rattle.strip_model.specs.declared.acquisition.Acquisition.{Acquisition}

pub returns-in-None-clause-in_time : goal.returns-in-None-clause-in_time
returns-in-None-clause-in_time c =
    let front = ap (λ (plan : List Acquisition). order_of plan) c.deref.ensures.value ∙ c.loop-x.invariant.order in (
      λ e. absurd (true≢false (sym e)),
      λ h. absurd (none_in_time c.args.instance.now c.args.order.now _ c.loop-x.x-index c.x-item.result c.loop-x-test.true c.x-item.is front c.in-None.ensures.none h),
    )

pub returns-clause-least : goal.returns-clause-least
returns-clause-least c = IsLeastPlan-earliest c.args.instance.now c.loop-x.plan.items c.loop-x.invariant.starts
