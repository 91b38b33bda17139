-- What is kept of a log with the labels that no mark marks.
use Rattle.log_check.specs.Standing.{AreStanding}
use Rattle.log_check.specs.declared.standing.Standing.{Standing}
use Rattle.proof_log.specs.declared.log.Log.{Log}
use Rattle.strip_model.specs.Orbit.{Orbit}
use Rattle.strip_model.specs.declared.end.End.TheVariants.{Forward, Backward}

-- these are the labels of both sides that no mark marks
pub record AreSeated (I : Orbit) (log : Log) (f b : Standing) : Type 0 where
  pub forward : AreStanding I log Forward f
  pub backward : AreStanding I log Backward b
