use Rattle.std.proofs.Common.{ℕ, ◌<◌}
use Rattle.manoeuvre.specs.Grid.{SameStripTakesNoTime}
use Rattle.manoeuvre.proofs.same_strip.first_broken.Given as goal

abbrev pub invariant-loop-x : goal.invariant-loop-x
invariant-loop-x l = (a b : ℕ) → a < l.x → b < l.square.size → SameStripTakesNoTime l.square a b
