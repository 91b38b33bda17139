-- What two live labels or roots make together.
use Rattle.std.specs.Prelude.{◌≡◌, ℕ, ◌≤◌, ◌<◌, List, ◌++◌, length, All, Contains}
use Rattle.bucket.specs.declared.id.Id.{Id}
use Rattle.closer.specs.declared.joining.Joint.{Joint}
use Rattle.label.specs.Labels.{IsLabelOf}
use Rattle.label.specs.declared.label.Label.{Label}
use Rattle.label_core.specs.CoreState.{path_of, IsLiveAt, IsLivePath}
use Rattle.label_core.specs.Events.{Publish}
use Rattle.label_core.specs.Machine.{Machine, Can}
use Rattle.admission.specs.CarefulRuns.{GoesQuietly}
use Rattle.admission.specs.Antichains.{Fades}
use Rattle.strip_model.specs.Join.{Joins, join_gain}
use Rattle.strip_model.specs.Plan.{gain_of}
use Rattle.strip_model.specs.Side.{face_of}
use Rattle.strip_model.specs.Starts.{HasEarliestStarts}
use Rattle.strip_model.specs.declared.end.End.{End}
use Rattle.strip_model.specs.declared.end.End.TheVariants.{Forward, Backward}

-- a quiet run leads to a machine with the same labels, of which the same live; the plan may be another
pub record Replans (m t : Machine) : Type 0 where
  pub quiet : GoesQuietly m t
  pub fades : Fades m t
  pub alive : (id : Id) → IsLiveAt m.state id → IsLiveAt t.state id

-- the path is that of a label of the list
abbrev pub HasPath : List Label → List ℕ → Type 0
HasPath labels path = (label : Label) × Contains labels label × (label.path.items ≡ path)

-- each live label of the side has its path in the list
abbrev pub HasAllLive : Machine → End → List Label → Type 0
HasAllLive m e labels = (id : Id) → id.end ≡ e → IsLiveAt m.state id → HasPath labels (path_of m.state id)

-- the first n labels of a bucket of the side were looked at, and those that live were added to the list
pub record AddsLive (m : Machine) (e : End) (b n : ℕ) (before later : List Label) : Type 0 where
  pub added : List Label
  pub is : later ≡ before ++ added
  pub all : (id : Id) → id.end ≡ e → id.bucket ≡ b → id.index < n → IsLiveAt m.state id → HasPath added (path_of m.state id)
  pub each : All (IsLabelOf (face_of m.instance m.cut e)) added
  pub few : length added ≤ n

-- a plan that may be published, with its gain, which no two live labels or roots that join exceed; it has earliest starts
pub record IsJoint (m : Machine) (joint : Joint) : Type 0 where
  pub can : Can m (Publish joint.plan.items)
  pub gain : joint.gain ≡ gain_of m.instance joint.plan.items
  pub greatest : (f b : List ℕ) → IsLivePath m.state Forward f → IsLivePath m.state Backward b → Joins m.instance f b
      → join_gain m.instance f b ≤ joint.gain
  pub earliest : HasEarliestStarts m.instance joint.plan.items
