use Rattle.std.proofs.Common.{◌≡◌, ℕ, ◌&&◌, nat_lt, is_some}
use Rattle.strip_model.specs.Directed.{strip_of, has}
use Rattle.strip_model.specs.Orbit.{strip_in}
use Rattle.label.proofs.tables.paired_of.Given as goal

-- those of the strips before are members whose strip has a twin
abbrev pub invariant-loop-i : goal.invariant-loop-i
invariant-loop-i l = (y : ℕ) → has y l.paired ≡ (nat_lt (strip_of y) l.i && is_some (strip_in l.strips (strip_of y)).twin)
