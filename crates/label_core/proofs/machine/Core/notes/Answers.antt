use Rattle.std.proofs.Common.{subst}
use Rattle.label_core.proofs.Cores.{names_there}
use Rattle.label_core.specs.Machine.{Machine, IsReached}
use Rattle.label_core.proofs.machine.Core.notes.Goals as goal

pub returns-clause-there : goal.returns-clause-there
returns-clause-there c = names_there c.args.self.now (subst (λ (m : Machine). IsReached m) c.self.view_is c.self.invariant.reached)
