use Rattle.std.proofs.Common.{◌≤◌, ◌-◌, length}
use Rattle.proof_log.specs.AnswerReading.{ArePathsRead}
use Rattle.proof_log.specs.AnswerRefusal.{paths_stage}
use Rattle.strip_model.specs.declared.end.End.TheVariants.{Backward}
use Rattle.proof_log.proofs.labels.read_backward.Given as goal

-- the lines of the labels so far were read, and the next one begins
abbrev pub invariant-loop-alloc : goal.invariant-loop-alloc
invariant-loop-alloc l = record {
  few : length l.paths.items ≤ l.wanted;
  read : ArePathsRead Backward (paths_stage Backward l.wanted) (paths_stage Backward (l.wanted - length l.paths.items)) l.initial.reader l.reader l.paths.items;
}

abbrev pub decreases-loop-alloc : goal.decreases-loop-alloc
decreases-loop-alloc l = l.wanted - length l.paths.items
