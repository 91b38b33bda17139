use Rattle.proof_log.proofs.Optimum.{optimal}
use Rattle.proof_log.proofs.laws.proof_laws.Goals as goal

pub returns : goal.returns
returns c = record { optimal = optimal }
