-- The entries of a table, and where they stand.
use Rattle.std.proofs.Common.{ℕ, ◌+◌, ◌*◌, ◌≤◌, length, inl, inr, arith}
use Rattle.std.proofs.lemmas.Bool.{cases_lt}
use Rattle.std.proofs.lemmas.List.{get_or_past}
use Rattle.manoeuvre.specs.Grid.{Grid, entry_at, IsTable}
use Rattle.manoeuvre.specs.declared.limits.TheConstants.{MAX_MANOEUVRE}

-- an entry is at most the longest manoeuvre; past the end of the table it is 0
pub entry_at-le : (t : Grid) (x y : ℕ) → IsTable t → entry_at t x y ≤ MAX_MANOEUVRE
entry_at-le t x y h =
    let k = x * t.size + y in
    elim (cases_lt k (length t.entries)) [
      | inl there ↦ h.bounded k 0 there
      | inr past ↦ omega (arith, get_or_past t.entries k 0 past)
    ]
