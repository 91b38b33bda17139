use Rattle.std.proofs.Common.{ℕ, ◌<◌}
use Rattle.log_check.specs.Faults.{HasExtension}
use Rattle.log_check.proofs.extending.has_extensions.Given as goal

-- what the directed strips so far make is listed
abbrev pub invariant-loop-n : goal.invariant-loop-n
invariant-loop-n l = (y : ℕ) → y < l.n → HasExtension l.listed.instance l.listed.log l.end l.label.path.items y
