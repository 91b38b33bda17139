use Rattle.instance_text.proofs.OneRefusal.{one_refusal, one_front_refusal}
use Rattle.instance_text.proofs.laws.refusal_laws.Goals as goal

pub returns-clause-text : goal.returns-clause-text
returns-clause-text c = one_refusal

pub returns-clause-front : goal.returns-clause-front
returns-clause-front c = one_front_refusal
