-- What an instance keeps beside its value, so that no call adds it up again.
use Rattle.std.specs.Prelude.{◌≡◌, ℕ, List, length, slice_index}
use Rattle.strip_model.specs.Gain.{whole_area}
use Rattle.strip_model.specs.Horizon.{horizon_of}
use Rattle.strip_model.specs.IsInstance.{IsInstance}
use Rattle.strip_model.specs.Orbit.{Orbit}

-- the area of each request, by number, and the horizon
pub record IsKept (J : Orbit) (areas : List ℕ) (horizon : ℕ) : Type 0 where
  pub instance : IsInstance J
  pub one_each : length areas ≡ length J.requests
  pub each_area : (r : ℕ) → slice_index areas r ≡ whole_area J r
  pub whole_horizon : horizon ≡ horizon_of J
