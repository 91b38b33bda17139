use Rattle.std.specs.Prelude.{List}
use Rattle.strip_model.specs.Orbit.{Orbit}
use Rattle.strip_model.specs.declared.acquisition.Acquisition.{Acquisition}

-- A published plan as contracts see it: the instance and the plan.
pub record Publication : Type 0 where
  pub instance : Orbit
  pub plan : List Acquisition
