use Rattle.std.proofs.Common.{◌≡◌, ◌≤◌, drop, max}
use Rattle.strip_model.specs.Horizon.{greatest_end}
use Rattle.strip_model.specs.declared.limits.TheConstants.{MAX_HORIZON}
use Rattle.strip_model.proofs.making.greatest_end.Given as goal

-- the greatest end so far, or one that is left, is that of all
abbrev pub invariant-loop-strip : goal.invariant-loop-strip
invariant-loop-strip l = (max l.latest (greatest_end (drop l.strip-index l.strips)) ≡ greatest_end l.strips) × (l.latest ≤ MAX_HORIZON)
