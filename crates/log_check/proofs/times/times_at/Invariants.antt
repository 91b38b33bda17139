use Rattle.log_check.proofs.MarkTimes.{TellSoFar}
use Rattle.log_check.proofs.times.times_at.Given as goal

-- the numbers tell what the marks so far mark
abbrev pub invariant-loop-j : goal.invariant-loop-j
invariant-loop-j l = TellSoFar l.log l.end l.times.items l.j
