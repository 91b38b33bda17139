use Rattle.std.proofs.Common.{◌≡◌, ℕ, ◌<◌, slice_get, Some}
use Rattle.std.specs.List.{Contains}
use Rattle.joiner.specs.Entries.{Covered, IsNewOf}
use Rattle.joiner.specs.Offers.{IsAbove, IsKept}
use Rattle.joiner.specs.declared.entry.Entry.{Entry}
use Rattle.joiner.proofs.looks.best_in_group.Given as goal

abbrev pub invariant-loop-w : goal.invariant-loop-w
invariant-loop-w l = record {
  above : IsAbove l.floor l.best;
  kept : IsKept l.floor l.fn.best l.best;
  covered : (k : ℕ) (w : Entry) → k < l.w-index → slice_get l.group.waiting.items k ≡ Some w → Covered l.instance l.floor l.best l.f w;
  new : IsNewOf l.instance l.f (Contains l.group.waiting.items) l.fn.best l.best;
}
