use Rattle.std.specs.Prelude.{◌≡◌, List}
use Rattle.std.specs.List.{AllByRecursion}
use Rattle.strip_model.specs.Orbit.{Orbit}
use Rattle.strip_model.specs.Plan.{order_of, IsInWindow, KeepsManoeuvres}
use Rattle.strip_model.specs.Starts.{StartsNoLater}
use Rattle.strip_model.specs.declared.acquisition.Acquisition.{Acquisition}

-- The plan's starts are the least: no plan of the same order in its windows and with time for its manoeuvres starts an
-- acquisition sooner.
abbrev pub IsLeastPlan : Orbit → List Acquisition → Type 0
IsLeastPlan J plan =
    (other : List Acquisition) → order_of other ≡ order_of plan → AllByRecursion (IsInWindow J) other
    → KeepsManoeuvres J other → StartsNoLater plan other
