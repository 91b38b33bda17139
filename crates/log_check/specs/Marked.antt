-- What is kept of a log whose marks keep the fourth rule.
use Rattle.log_check.specs.Times.{AllNamed, AreTimes}
use Rattle.log_check.specs.declared.times.Times.{Times}
use Rattle.proof_log.specs.declared.log.Log.{Log}

-- the marks name labels that are there, and the numbers tell when labels are marked
pub record KeepsTimes (log : Log) (t : Times) : Type 0 where
  pub named : AllNamed log
  pub times : AreTimes log t
