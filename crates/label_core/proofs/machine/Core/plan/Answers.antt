use Rattle.std.proofs.Common.{subst}
use Rattle.label_core.proofs.Cores.{IsOrderly-reached}
use Rattle.label_core.specs.Machine.{Machine, IsReached}
use Rattle.label_core.proofs.machine.Core.plan.Goals as goal

pub returns-clause-feasible : goal.returns-clause-feasible
returns-clause-feasible c =
    (IsOrderly-reached c.args.self.now (subst (λ (m : Machine). IsReached m) c.self.view_is c.self.invariant.reached)).feasible
