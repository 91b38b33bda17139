-- Numbers that several parties drew.
use Rattle.std.specs.Prelude.{◌≡◌, ◌≤◌, ◌<◌, ◌==◌, ℕ, List, count_by, sum_by, nat_lt, if◌then◌else◌, Option, Some, None}

-- how often this number is one of these
abbrev pub times : ℕ → List ℕ → ℕ
times n numbers = count_by (λ k. k == n) numbers

-- each number below `next` stands in one place of one party, and no other number stands anywhere
abbrev pub AreAllBelow : (next : ℕ) → (parties : List (List ℕ)) → Type 0
AreAllBelow next parties = (n : ℕ) → sum_by (times n) parties ≡ (if nat_lt n next then 1 else 0)

-- How far the word came: no further than the budget where no drawer is exhausted. Where the last one is, it passed the number that is kept, which isn't below
-- the budget.
abbrev pub IsEnd : (next budget : ℕ) → (kept : Option ℕ) → Type 0
IsEnd next budget None = next ≤ budget
IsEnd next budget (Some number) = (budget ≤ number) × (number < next)
