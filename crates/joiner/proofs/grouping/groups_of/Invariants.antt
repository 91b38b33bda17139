use Rattle.std.proofs.Common.{◌≡◌, ℕ, slice_get, length, Some}
use Rattle.joiner.specs.Entries.{IsGroup}
use Rattle.joiner.specs.Grouping.{IsGathered}
use Rattle.joiner.specs.declared.group.Group.{Group}
use Rattle.joiner.proofs.grouping.groups_of.Given as goal

abbrev pub invariant-loop-y : goal.invariant-loop-y
invariant-loop-y l = record {
  size : length l.groups.items ≡ l.y;
  each : (y : ℕ) (g : Group) → slice_get l.groups.items y ≡ Some g → IsGroup l.instance y g;
  gathered : (y : ℕ) (g : Group) → slice_get l.groups.items y ≡ Some g → IsGathered l.entries y g.waiting.items;
}
