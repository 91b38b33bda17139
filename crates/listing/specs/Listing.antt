-- What the listing comes to.
use Rattle.std.specs.Prelude.{ℕ, List}
use Rattle.strip_model.specs.Orbit.{Orbit}
use Rattle.strip_model.specs.Plan.{order_of, KeepsTwinsTogether}
use Rattle.strip_model.specs.Starts.{IsInTime, HasEarliestStarts}
use Rattle.strip_model.specs.declared.acquisition.Acquisition.{Acquisition}

-- a plan that the listing comes to: its order is in time, and its starts are the earliest
pub record IsListed (J : Orbit) (plan : List Acquisition) : Type 0 where
  pub order : IsInTime J (order_of plan)
  pub earliest : HasEarliestStarts J plan

-- an order that is in time and whose twins come together: at earliest starts it is a feasible plan
pub record IsCandidate (J : Orbit) (order : List ℕ) : Type 0 where
  pub in_time : IsInTime J order
  pub twins : KeepsTwinsTogether J order
