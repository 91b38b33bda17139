use Rattle.plan_check.proofs.EveryText.{one_plan, no_bad_line, settled}
use Rattle.plan_check.proofs.OneLine.{one_first_bad_line}
use Rattle.plan_check.proofs.laws.plan_text_laws.Goals as goal

pub returns : goal.returns
returns c = record { one_plan = one_plan; none_refused = no_bad_line; else_refused = settled; one_refusal = one_first_bad_line }
