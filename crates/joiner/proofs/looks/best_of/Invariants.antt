use Rattle.std.proofs.Common.{◌≡◌, ℕ, ◌<◌, slice_get, Some}
use Rattle.joiner.specs.Entries.{root, IsAmong, Covered, IsNewOf}
use Rattle.joiner.specs.Offers.{IsAbove, IsKept}
use Rattle.joiner.specs.declared.entry.Entry.{Entry}
use Rattle.joiner.specs.declared.group.Group.{Group}
use Rattle.joiner.proofs.looks.best_of.Given as goal

abbrev pub invariant-loop-y : goal.invariant-loop-y
invariant-loop-y l = record {
  above : IsAbove l.floor l.best;
  kept : IsKept l.floor l.fn.best l.best;
  root : Covered l.instance l.floor l.best l.f root;
  covered : (y k : ℕ) (g : Group) (w : Entry) → y < l.y → slice_get l.groups y ≡ Some g → slice_get g.waiting.items k ≡ Some w → Covered l.instance l.floor l.best l.f w;
  new : IsNewOf l.instance l.f (IsAmong l.groups) l.fn.best l.best;
}
