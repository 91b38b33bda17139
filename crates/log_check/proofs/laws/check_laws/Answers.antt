use Rattle.log_check.proofs.FirstPlaces.{refuted, one}
use Rattle.log_check.proofs.Keeping.{keeps_from_proof, proof_from_keeps}
use Rattle.log_check.proofs.laws.check_laws.Goals as goal

pub returns-clause-kept : goal.returns-clause-kept
returns-clause-kept c = λ I log. (keeps_from_proof I log, proof_from_keeps I log)

pub returns-clause-refuted : goal.returns-clause-refuted
returns-clause-refuted c = refuted

pub returns-clause-one : goal.returns-clause-one
returns-clause-one c = one
