-- What a search has when it ends.
use Rattle.std.specs.Prelude.{ℕ, ◌<◌, ◌≤◌, List}
use Rattle.bucket.specs.declared.id.Id.{Id}
use Rattle.closer.specs.declared.outcome.Outcome.{Outcome}
use Rattle.closer.specs.declared.outcome.Outcome.TheVariants.{Optimal, Open}
use Rattle.label_core.specs.Closed.{IsClosed}
use Rattle.label_core.specs.CoreState.{path_of, IsLiveAt, IsLivePath}
use Rattle.label_core.specs.Machine.{Machine, count_of}
use Rattle.admission.specs.CarefulRuns.{IsAntichain, IsExtended, GoesCarefully}
use Rattle.strip_model.specs.Join.{Joins, join_gain}
use Rattle.strip_model.specs.Plan.{gain_of}
use Rattle.strip_model.specs.Reach.{bound}
use Rattle.strip_model.specs.Side.{facing}
use Rattle.strip_model.specs.Starts.{HasEarliestStarts}
use Rattle.strip_model.specs.declared.end.End.{End}
use Rattle.strip_model.specs.declared.end.End.TheVariants.{Forward, Backward}

-- no two live labels or roots that join gain more than the incumbent
abbrev pub HasNoBetterJoin : Machine → Type 0
HasNoBetterJoin m = (f b : List ℕ) → IsLivePath m.state Forward f → IsLivePath m.state Backward b → Joins m.instance f b
    → join_gain m.instance f b ≤ gain_of m.instance m.state.incumbent

-- each live label's bound exceeds the incumbent's gain
abbrev pub BoundsExceed : Machine → Type 0
BoundsExceed m = (id : Id) → IsLiveAt m.state id
    → gain_of m.instance m.state.incumbent < bound (facing m.instance id.end) (path_of m.state id)

-- A search is at its end: nothing live joins to more than the incumbent, no live label dominates another, each live label's
-- bound exceeds the incumbent's gain, and the incumbent has earliest starts.
pub record IsAtRest (m : Machine) : Type 0 where
  pub joined : HasNoBetterJoin m
  pub antichain : IsAntichain m
  pub bounds : BoundsExceed m
  pub earliest : HasEarliestStarts m.instance m.state.incumbent

-- A careful run within the budget leads from one machine to the other, where the search is at its end.
pub record EndsAt (budget : ℕ) (m t : Machine) : Type 0 where
  pub run : GoesCarefully budget m t
  pub rest : IsAtRest t

-- a root or live label lacks an extension that is a label path
abbrev pub IsOpen : Machine → Type 0
IsOpen m = (e : End) × (path : List ℕ) × IsLivePath m.state e path × (IsExtended m e path → ⊥)

-- the budget of labels is reached, and an extension of a root or live label is missing
pub record IsSpent (budget : ℕ) (m : Machine) : Type 0 where
  pub spent : budget ≤ count_of m.state
  pub missing : IsOpen m

-- What a search answers that goes on from a machine.
abbrev pub Finishes : ℕ → Machine → Outcome → Type 0
Finishes budget m (Optimal t) = EndsAt budget m t × IsClosed t.instance t.cut t.state
Finishes budget m (Open t) = EndsAt budget m t × IsSpent budget t
