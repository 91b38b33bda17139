use Rattle.log_check.proofs.OpenSeats.{KeptBelow}
use Rattle.log_check.proofs.extending.first_open.Given as goal

-- the root and the labels so far have their extensions
abbrev pub invariant-loop-i : goal.invariant-loop-i
invariant-loop-i l = KeptBelow l.seated.instance l.seated.log l.end l.standing.places.items l.i
