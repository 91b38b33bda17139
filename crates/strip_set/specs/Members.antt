-- A set of numbers is seen as its rising list. Here stand the words that say so.
use Rattle.std.specs.Prelude.{◌≡◌, ℕ, ◌/◌, ◌≤◌, Bool, false, List, ◌==◌}
use Rattle.std.specs.List.{list_any}
use Rattle.std.specs.List.Sorted.{IsStrictlyIncreasing}

-- whether y stands in the list
abbrev pub has : ℕ → List ℕ → Bool
has y xs = list_any (λ x. x == y) xs

-- whether a directed strip of strip i stands in the list: directed strip x belongs to strip x / 2
abbrev pub has_strip : ℕ → List ℕ → Bool
has_strip i xs = list_any (λ x. (x / 2) == i) xs

-- the list is that of a set of numbers below the bound
pub record IsSet (bound : ℕ) (xs : List ℕ) : Type 0 where
  pub rises : IsStrictlyIncreasing xs
  pub below : (y : ℕ) → bound ≤ y → has y xs ≡ false
