use Rattle.std.proofs.Common.{◌≡◌, ℕ, ◌*◌, ◌<◌, length}
use Rattle.closer.specs.Looking.{IsExtendedBy}
use Rattle.closer.specs.Searching.{IsParent}
use Rattle.closer.proofs.looking.is_extended.Given as goal

-- the label at hand is its own, and it is extended by each directed strip so far
abbrev pub invariant-loop-y : goal.invariant-loop-y
invariant-loop-y l = record {
  strips : l.count ≡ 2 * length l.core.instance.strips;
  parent : IsParent l.core l.now l.parent;
  done : (z : ℕ) → z < l.y → IsExtendedBy l.core l.now z;
}
