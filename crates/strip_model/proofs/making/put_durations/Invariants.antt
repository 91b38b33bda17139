use Rattle.std.proofs.Common.{◌≡◌, ◌*◌, take}
use Rattle.std.specs.List.{AllWithin}
use Rattle.strip_model.specs.IsInstance.{HasTwoWindows}
use Rattle.strip_model.specs.Refusal.{durations_of}
use Rattle.strip_model.proofs.making.put_durations.Given as goal

-- the durations of the strips so far stand in the first places, and each strip so far has two windows
abbrev pub invariant-loop-i : goal.invariant-loop-i
invariant-loop-i l = record {
  durations : take (2 * l.i) l.durations ≡ durations_of (take l.i l.strips);
  two_windows : AllWithin HasTwoWindows l.strips 0 l.i;
}
