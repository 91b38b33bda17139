use Rattle.instance_text.proofs.OneValue.{equal_from_text}
use Rattle.instance_text.proofs.TextFronts.{one_front}
use Rattle.instance_text.proofs.laws.one_value.Goals as goal

pub returns-clause-text : goal.returns-clause-text
returns-clause-text c = equal_from_text

pub returns-clause-front : goal.returns-clause-front
returns-clause-front c = one_front
