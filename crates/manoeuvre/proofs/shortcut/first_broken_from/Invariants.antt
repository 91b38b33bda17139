use Rattle.std.proofs.Common.{ℕ, ◌<◌, slice_index}
use Rattle.manoeuvre.specs.Grid.{DetourSavesNoTime}
use Rattle.manoeuvre.proofs.shortcut.first_broken_from.Given as goal

abbrev pub invariant-loop-y : goal.invariant-loop-y
invariant-loop-y l =
    (b c : ℕ) → b < l.y → c < l.square.size → DetourSavesNoTime (slice_index l.durations) l.square l.x b c
