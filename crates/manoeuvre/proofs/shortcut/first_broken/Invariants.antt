use Rattle.std.proofs.Common.{ℕ, ◌<◌, slice_index}
use Rattle.manoeuvre.specs.Grid.{DetourSavesNoTime}
use Rattle.manoeuvre.proofs.shortcut.first_broken.Given as goal

abbrev pub invariant-loop-x : goal.invariant-loop-x
invariant-loop-x l =
    (a b c : ℕ) → a < l.x → b < l.square.size → c < l.square.size
    → DetourSavesNoTime (slice_index l.durations) l.square a b c
