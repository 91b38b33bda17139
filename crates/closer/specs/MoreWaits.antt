-- What waits beside what waited before.
use Rattle.std.specs.Prelude.{◌⊎◌, List, Contains}
use Rattle.closer.specs.Searching.{Names}
use Rattle.closer.specs.declared.wait.Wait.{Wait}
use Rattle.label_core.specs.Machine.{Machine}

-- what waited waits on, and what waits besides is a root or a label
pub record AddsWaits (m : Machine) (old new : List Wait) : Type 0 where
  pub kept : (w : Wait) → Contains old w → Contains new w
  pub only : (w : Wait) → Contains new w → Contains old w ⊎ Names m w
