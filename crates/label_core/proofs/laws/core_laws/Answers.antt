use Rattle.label_core.proofs.ClosedRuns.{runs_give_proofs}
use Rattle.label_core.proofs.laws.core_laws.Goals as goal

-- src/laws.rt:14:1
pub returns : goal.returns
returns c = record { closed = runs_give_proofs }
