use Rattle.std.proofs.Common.{◌≡◌, ℕ, true, map, take, drop}
use Rattle.strip_model.specs.Directed.{has}
use Rattle.strip_model.specs.Plan.{StripsExist}
use Rattle.strip_model.specs.Twins.{keeps_twin}
use Rattle.strip_model.proofs.sequence.keeps_twins_together.Given as goal

-- each directed strip so far has its twin
abbrev pub invariant-loop-item : goal.invariant-loop-item
invariant-loop-item g l = record {
  kept : (x : ℕ) → has x (map g.X.AtDirected.directed (take l.item-index l.sequence)) ≡ true
      → keeps_twin l.instance (map g.X.AtDirected.directed l.sequence) x ≡ true;
  exist : StripsExist l.instance (map g.X.AtDirected.directed (drop l.item-index l.sequence));
}
