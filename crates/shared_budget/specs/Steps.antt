-- What each step tells its caller: of the step, the seat before, the number found and the seat after.
use Rattle.std.specs.Prelude.{◌≡◌, ◌≤◌, ◌<◌, ◌+◌, ◌-◌, ◌/◌, ℕ, All, [], ◌∷◌, ◌++◌, Option, Some, None, IfSome, nat_lt, if◌then◌else◌}
use Rattle.atomic_table.specs.Table.{Me, Step}
use Rattle.shared_budget.specs.declared.view.View.{View}
use Rattle.pass_weight.specs.declared.whole_weight.TheConstants.{WHOLE_WEIGHT}
use Rattle.shared_budget.specs.Calls.{first_of}
use Rattle.shared_budget.specs.Views.{parties_of}

-- a drawer's seat at the table: what it knows, and the slots that it holds, which are none
abbrev Seated : Type 0
Seated = Me (Unit {0}) View

-- what is kept after this number was drawn: it, where it isn't below the budget
abbrev pub kept_from : (budget number : ℕ) → Option ℕ
kept_from budget number = if nat_lt number budget then None else Some number

-- the view that drew this number
abbrev pub with_number : View → (number : ℕ) → View
with_number v number = record v { own = v.own ++ number ∷ []; kept = kept_from v.budget number }

-- a view after a split: it keeps the larger half of its weight
abbrev pub kept_half : View → View
kept_half v = record v { weight = v.weight - v.weight / 2 }

-- the view that was split off: it has no number of its own, and has the smaller half of the weight
abbrev pub new_half : View → View
new_half v = record v { own = []; joined = []; weight = v.weight / 2 }

-- two views are made one
abbrev pub united : View → View → View
united v w = record v { joined = v.joined ++ parties_of w; kept = first_of v.kept w.kept; weight = v.weight + w.weight }

-- a number was drawn, the one that was found, and exceeds all of the view's parties
abbrev pub DrawsOne : Step (Unit {0}) → Seated → ℕ → Seated → Type 0
DrawsOne step old found new =
    (new ≡ (with_number old.0 found, old.1)) × All (All (λ n. n < found)) (parties_of old.0)

-- Nothing changed. The view weighs no more than the whole, and the number that it keeps isn't below the budget.
abbrev pub Weighs : Step (Unit {0}) → Seated → ℕ → Seated → Type 0
Weighs step old found new =
    (new ≡ old) × (old.0.weight ≤ WHOLE_WEIGHT) × IfSome old.0.kept (λ number. old.0.budget ≤ number)
