use Rattle.std.specs.Prelude.{◌≡◌}
use Rattle.listing.specs.declared.exploring.Best.{Best}
use Rattle.strip_model.specs.Orbit.{Orbit}
use Rattle.strip_model.specs.Plan.{Feasible, gain_of}
use Rattle.strip_model.specs.Starts.{HasEarliestStarts}

-- the kept plan is feasible and has earliest starts, and its gain is the one kept with it
pub record IsBest (J : Orbit) (best : Best) : Type 0 where
  pub feasible : Feasible J best.plan.items
  pub earliest : HasEarliestStarts J best.plan.items
  pub gain : best.gain ≡ gain_of J best.plan.items
