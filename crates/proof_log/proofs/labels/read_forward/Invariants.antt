use Rattle.std.proofs.Common.{◌≤◌, ◌-◌, length}
use Rattle.proof_log.specs.AnswerReading.{ArePathsRead}
use Rattle.proof_log.specs.AnswerRefusal.{paths_stage}
use Rattle.strip_model.specs.declared.end.End.TheVariants.{Forward}
use Rattle.proof_log.proofs.labels.read_forward.Given as goal

-- the lines of the labels so far were read, and the next one begins
abbrev pub invariant-loop-reader : goal.invariant-loop-reader
invariant-loop-reader l = record {
  few : length l.paths.items ≤ l.wanted;
  read : ArePathsRead Forward (paths_stage Forward l.wanted) (paths_stage Forward (l.wanted - length l.paths.items)) l.initial.reader l.reader l.paths.items;
}

abbrev pub decreases-loop-reader : goal.decreases-loop-reader
decreases-loop-reader l = l.wanted - length l.paths.items
