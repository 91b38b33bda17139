-- Optimal plans.
use Rattle.std.specs.Prelude.{◌≤◌, List}
use Rattle.strip_model.specs.Orbit.{Orbit}
use Rattle.strip_model.specs.Plan.{Feasible, gain_of}
use Rattle.strip_model.specs.declared.acquisition.Acquisition.{Acquisition}

-- An optimal plan: it is feasible, and no feasible plan gains more.
pub record Optimal (J : Orbit) (plan : List Acquisition) : Type 0 where
  pub feasible : Feasible J plan
  pub best : (other : List Acquisition) → Feasible J other → gain_of J other ≤ gain_of J plan
