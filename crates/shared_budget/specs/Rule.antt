-- The rule of the word's table. The word is the next number.
use Rattle.std.specs.Prelude.{◌≡◌, ◌≤◌, ◌+◌, ◌⊎◌, ℕ, [], ◌∷◌, sum_by, All, None, nat_lt, if◌then◌else◌}
use Rattle.atomic_table.specs.Table.{State}
use Rattle.shared_budget.specs.declared.view.View.{View}
use Rattle.shared_budget.specs.declared.draws.TheConstants.{MOST_BUDGET}
use Rattle.pass_weight.specs.declared.whole_weight.TheConstants.{WHOLE_WEIGHT}
use Rattle.shared_budget.specs.Views.{times_in, resting, IsPast}

-- the view of the first drawer: it has drawn nothing, and has the whole weight
abbrev pub first_view : (budget : ℕ) → View
first_view budget = record { own = []; joined = []; kept = None; budget = budget; weight = WHOLE_WEIGHT }

-- the view that a drawer leaves when it is joined into another
abbrev pub left_over : View
left_over = record { own = []; joined = []; kept = None; budget = 0; weight = 0 }

pub record IsKept (budget next : ℕ) (s : State (Unit {0}) View) : Type 0 where
  -- the word is the next number
  pub word : s.words ≡ next ∷ []
  -- each number below it stands in exactly one place of one view, and no other number does
  pub numbers : (n : ℕ) → sum_by (times_in n) s.views ≡ (if nat_lt n next then 1 else 0)
  -- each number that is kept was drawn, and isn't below the budget
  pub past : All (λ v. IsPast budget next v.kept) s.views
  -- the word passes the budget by no more than the weights of the drawers that draw no more
  pub within : next ≤ budget + sum_by resting s.views
  -- the budget is bounded, so the word never wraps
  pub bounded : budget ≤ MOST_BUDGET
  -- all carry the word's budget
  pub budgets : All (λ v. (v ≡ left_over) ⊎ (v.budget ≡ budget)) s.views
  -- the weights make the whole weight
  pub weights : sum_by (λ v. v.weight) s.views ≡ WHOLE_WEIGHT
  -- each weight is at least 1
  pub positive : All (λ v. (v ≡ left_over) ⊎ (1 ≤ v.weight)) s.views

-- the rule, of the budget and the table
abbrev pub Keeps : ℕ → State (Unit {0}) View → Type 0
Keeps budget s = (next : ℕ) × IsKept budget next s
