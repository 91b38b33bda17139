use Rattle.std.proofs.Common.{ℕ, ◌<◌}
use Rattle.manoeuvre.specs.Grid.{SameStripTakesNoTime}
use Rattle.manoeuvre.proofs.same_strip.first_broken_in_row.Given as goal

abbrev pub invariant-loop-y : goal.invariant-loop-y
invariant-loop-y l = (b : ℕ) → b < l.y → SameStripTakesNoTime l.square l.x b
