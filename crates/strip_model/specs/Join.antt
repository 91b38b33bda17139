-- Joining a forward path and a backward one.
use Rattle.std.specs.Prelude.{ℕ, List, ◌++◌, reverse}
use Rattle.strip_model.specs.Orbit.{Orbit}
use Rattle.strip_model.specs.Plan.{Feasible, gain_of}
use Rattle.strip_model.specs.Starts.{Root, earliest}
use Rattle.strip_model.specs.declared.acquisition.Acquisition.{Acquisition}

-- the plan of a forward path and a backward one: the first, then the second turned round, at earliest starts
abbrev pub joined_plan : Orbit → List ℕ → List ℕ → List Acquisition
joined_plan J f b = earliest J Root (f ++ reverse b)

-- the two join: their plan is feasible
abbrev pub Joins : Orbit → List ℕ → List ℕ → Type 0
Joins J f b = Feasible J (joined_plan J f b)

-- what they gain together
abbrev pub join_gain : Orbit → List ℕ → List ℕ → ℕ
join_gain J f b = gain_of J (joined_plan J f b)
