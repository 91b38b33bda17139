-- What a view says: the numbers of its parties, and whether it draws on.
use Rattle.std.specs.Prelude.{◌≤◌, ◌<◌, ℕ, List, ◌∷◌, sum_by, Option, Some, None}
use Rattle.shared_budget.specs.declared.view.View.{View}
use Rattle.shared_budget.specs.Numbers.{times}

-- the parties of a view: its own numbers, and those of each drawer that was joined into it
abbrev pub parties_of : View → List (List ℕ)
parties_of v = v.own ∷ v.joined

-- how often this number stands in a view
abbrev pub times_in : ℕ → View → ℕ
times_in n v = sum_by (times n) (parties_of v)

-- the weight, where a number is kept
abbrev pub weight_if : (kept : Option ℕ) → (weight : ℕ) → ℕ
weight_if None weight = 0
weight_if (Some _) weight = weight

-- the weight of a view that draws no more
abbrev pub resting : View → ℕ
resting v = weight_if v.kept v.weight

-- a number that is kept was drawn, and isn't below the budget
abbrev pub IsPast : (budget next : ℕ) → (kept : Option ℕ) → Type 0
IsPast budget next None = Unit {0}
IsPast budget next (Some number) = (budget ≤ number) × (number < next)
