-- A plan at earliest starts is the least of its order.
use Rattle.std.proofs.Common.{List, ℕ, sym, ◌∙◌, ap, subst}
use Rattle.strip_model.proofs.Starts.{StartsNoLater-earliest}
use Rattle.strip_model.specs.Orbit.{Orbit}
use Rattle.strip_model.specs.Starts.{earliest, HasEarliestStarts, StartsNoLater}
use Rattle.strip_model.specs.Starts.Place.{Root}
use Rattle.strip_model.specs.declared.acquisition.Acquisition.{Acquisition}
use Rattle.plan_check.specs.Least.{IsLeastPlan}

-- a plan at earliest starts is the least of its order
pub IsLeastPlan-earliest : (J : Orbit) (plan : List Acquisition) → HasEarliestStarts J plan → IsLeastPlan J plan
IsLeastPlan-earliest J plan h other same windows manoeuvres =
    let S : List Acquisition → Type 0 = λ least. StartsNoLater least other in
    subst S (ap (λ (xs : List ℕ). earliest J Root xs) same ∙ sym h) (StartsNoLater-earliest J other windows manoeuvres)
