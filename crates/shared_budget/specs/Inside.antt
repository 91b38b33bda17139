-- What lies in a drawer.
use Rattle.std.specs.Prelude.{◌≡◌, ◌≤◌, ℕ, List, [], Option, IfSome}
use Rattle.atomic_table.specs.Seated.{TableId}
use Rattle.shared_budget.specs.declared.view.View.{View}
use Rattle.pass_weight.specs.declared.whole_weight.TheConstants.{WHOLE_WEIGHT}
use Rattle.shared_budget.specs.Drawn.{Drawn}

-- the drawer with this view
abbrev pub drawn_of : TableId → View → Drawn
drawn_of table v = record { table = table; own = v.own; joined = v.joined; kept = v.kept; budget = v.budget; weight = v.weight }

-- what every drawer keeps
pub record IsDrawer (v : View) (slots : List (ℕ × Unit {0})) (kept : Option ℕ) (budget weight : ℕ) : Type 0 where
  pub no_slot : slots ≡ []
  pub kept_is : kept ≡ v.kept
  pub budget_is : budget ≡ v.budget
  pub weight_is : weight ≡ v.weight
  pub past : IfSome v.kept (λ number. v.budget ≤ number)
  pub positive : 1 ≤ v.weight
  pub bounded : v.weight ≤ WHOLE_WEIGHT
