use Rattle.plan_check.proofs.Faults.{feasible_exactly}
use Rattle.plan_check.proofs.laws.fault_laws.Goals as goal

pub returns : goal.returns
returns c = feasible_exactly
