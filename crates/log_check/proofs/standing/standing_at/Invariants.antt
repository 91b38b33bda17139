use Rattle.log_check.specs.Standing.{StandBelow}
use Rattle.log_check.proofs.standing.standing_at.Given as goal

-- they are the labels so far that no mark marks
abbrev pub invariant-loop-k : goal.invariant-loop-k
invariant-loop-k l = StandBelow l.marked.instance l.marked.log l.end l.k l.labels.items l.places.items
