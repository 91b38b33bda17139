use Rattle.std.proofs.Common.{arith}
use Rattle.log_check.specs.Faults.Rule.{MarksNameLabels}
use Rattle.log_check.proofs.checking.verdict_on_marks.Goals as goal

pub new-requires : goal.new-requires
new-requires c = record { named = c.requires MarksNameLabels (omega arith) }
