use Rattle.std.proofs.Common.{ℕ, ◌<◌, slice_index}
use Rattle.manoeuvre.specs.Grid.{DetourSavesNoTime}
use Rattle.manoeuvre.proofs.shortcut.first_broken_by.Given as goal

abbrev pub invariant-loop-z : goal.invariant-loop-z
invariant-loop-z l = (c : ℕ) → c < l.z → DetourSavesNoTime (slice_index l.durations) l.square l.x l.y c
