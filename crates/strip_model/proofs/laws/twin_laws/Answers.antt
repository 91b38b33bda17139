use Rattle.strip_model.proofs.Twins.{KeepsTwinRule-from_together, KeepsTwinsTogether-from_rule}
use Rattle.strip_model.proofs.laws.twin_laws.Goals as goal

pub returns : goal.returns
returns c J xs inst distinct = (KeepsTwinRule-from_together J xs inst distinct, KeepsTwinsTogether-from_rule J xs)
