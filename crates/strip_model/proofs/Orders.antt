-- Orders of directed strips that a feasible plan can have. What comes before, after or between is proved of orders, since at
-- earliest starts an order says all of a plan.
use Rattle.std.proofs.Common.{ℕ, List, subst}
use Rattle.strip_model.proofs.Starts.{order_of-earliest, Fits-from_Feasible, Feasible-earliest}
use Rattle.strip_model.specs.Orbit.{Orbit}
use Rattle.strip_model.specs.Plan.{order_of, KeepsTwinsTogether, Feasible}
use Rattle.strip_model.specs.Starts.{Root, earliest, IsInTime}
use Rattle.strip_model.specs.declared.acquisition.Acquisition.{Acquisition}

-- an order of strips that exist, each once, in time at earliest starts, where twins come together
pub record IsFeasibleOrder (J : Orbit) (xs : List ℕ) : Type 0 where
  pub in_time : IsInTime J xs
  pub twins : KeepsTwinsTogether J xs

-- the order at earliest starts is a feasible plan
pub Feasible-order : (J : Orbit) (xs : List ℕ) → IsFeasibleOrder J xs → Feasible J (earliest J Root xs)
Feasible-order J xs h = Feasible-earliest J xs h.in_time.exist h.in_time.distinct h.in_time.fits h.twins

-- the order of a feasible plan
pub IsFeasibleOrder-order_of : (J : Orbit) (plan : List Acquisition) → Feasible J plan → IsFeasibleOrder J (order_of plan)
IsFeasibleOrder-order_of J plan h = record {
  in_time = record { exist = h.exist; distinct = h.distinct; fits = Fits-from_Feasible J plan h };
  twins = h.twins;
}

-- a list is such an order if it is a feasible plan at earliest starts
pub IsFeasibleOrder-earliest : (J : Orbit) (xs : List ℕ) → Feasible J (earliest J Root xs) → IsFeasibleOrder J xs
IsFeasibleOrder-earliest J xs h =
    subst (λ (ys : List ℕ). IsFeasibleOrder J ys) (order_of-earliest J Root xs) (IsFeasibleOrder-order_of J (earliest J Root xs) h)
