use Rattle.std.proofs.Common.{refl}
use Rattle.plan_check.proofs.Faults.{faultless-Feasible}
use Rattle.log_check.proofs.planning.first_plan_fault.Goals as goal

pub returns-in-Ok : goal.returns-in-Ok
returns-in-Ok c =
    let feasible = rw c.deref.ensures.value at (c.in-Ok.ensures.feasible.0 refl) in
    λ n fault has _. faultless-Feasible c.args.instance.now c.args.log.now.plan.items feasible fault has
