-- Both sides of a core, and what every core keeps.
use Rattle.std.specs.Prelude.{◌≡◌, ℕ, ◌≤◌, List, [], get_or, if◌then◌else◌}
use Rattle.label_list.specs.Labels.{Held}
use Rattle.label_core.specs.CoreState.{CoreState, Note}
use Rattle.label_core.specs.Machine.{Machine, IsReached, count_of}
use Rattle.label_core.specs.SideLists.{Sided, with_bucket}
use Rattle.label_core.specs.declared.both_sides.BothSides.{BothSides}
use Rattle.label_core.specs.declared.limits.TheConstants.{MAX_CORE_LABELS}
use Rattle.proof_log.specs.Labels.{same_end}
use Rattle.strip_model.specs.Orbit.{Orbit}
use Rattle.strip_model.specs.Plan.{gain_of}
use Rattle.strip_model.specs.Side.{face_of}
use Rattle.strip_model.specs.declared.acquisition.Acquisition.{Acquisition}
use Rattle.strip_model.specs.declared.end.End.{End}
use Rattle.strip_model.specs.declared.end.End.TheVariants.{Forward, Backward}

-- the half of a side
abbrev pub side_at : BothSides → End → Sided
side_at sides Forward = sides.forward
side_at sides Backward = sides.backward

-- the labels of a bucket
abbrev pub labels_on : BothSides → End → ℕ → List Held
labels_on sides e b = get_or (side_at sides e).buckets b []

-- the sides with other labels in one bucket
abbrev pub with_labels_on : BothSides → End → ℕ → List Held → BothSides
with_labels_on sides e b labels =
    record {
      forward = if same_end e Forward then with_bucket sides.forward b labels else sides.forward;
      backward = if same_end e Backward then with_bucket sides.backward b labels else sides.backward;
    }

-- the state of a core with these sides, marks and plan
abbrev pub state_with : BothSides → List Note → List Acquisition → CoreState
state_with sides notes plan =
    record { forward = sides.forward.buckets; backward = sides.backward.buckets; notes = notes; incumbent = plan }

-- the core with these sides, marks and plan
abbrev pub machine_of : Orbit → BothSides → List Note → List Acquisition → Machine
machine_of I sides notes plan = record { instance = I; cut = sides.forward.face.cut; state = state_with sides notes plan }

-- What every core keeps: legal steps led to its state; its sides are those of the instance with one cut; and the gain and the
-- number of labels that it keeps are those of its state.
pub record IsCore (I : Orbit) (sides : BothSides) (notes : List Note) (plan : List Acquisition) (gain labels : ℕ) : Type 0 where
  pub reached : IsReached (machine_of I sides notes plan)
  pub forward : sides.forward.face ≡ face_of I sides.forward.face.cut Forward
  pub backward : sides.backward.face ≡ face_of I sides.forward.face.cut Backward
  pub gain_is : gain ≡ gain_of I plan
  pub count_is : labels ≡ count_of (state_with sides notes plan)
  pub few : labels ≤ MAX_CORE_LABELS
