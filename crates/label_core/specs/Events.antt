-- The steps of the core, and its runs.
use Rattle.std.specs.Prelude.{◌≡◌, ◌≢◌, ℕ, ◌≤◌, ⊤, List, [], ◌∷◌, ◌++◌, Option, Some, None}
use Rattle.label_core.specs.CoreState.{CoreState, Retires, Cuts, labels_in, path_of, state_of, IsThere, IsLiveAt, IsListed, with_labels, with_state, with_note}
use Rattle.bucket.specs.Histories.{bucket_of}
use Rattle.label_list.specs.declared.state.State.TheVariants.{Waiting, Taken, Retired, Cut}
use Rattle.bucket.specs.declared.id.Id.{Id}
use Rattle.strip_model.specs.Dominance.{Dominates}
use Rattle.strip_model.specs.Join.{Joins, joined_plan, join_gain}
use Rattle.strip_model.specs.LabelPath.{LabelPath}
use Rattle.strip_model.specs.Orbit.{Orbit}
use Rattle.strip_model.specs.Plan.{Feasible, gain_of}
use Rattle.strip_model.specs.Reach.{bound}
use Rattle.strip_model.specs.Side.{facing, face_of}
use Rattle.strip_model.specs.declared.acquisition.Acquisition.{Acquisition}
use Rattle.strip_model.specs.declared.end.End.{End}
use Rattle.strip_model.specs.declared.end.End.TheVariants.{Forward, Backward}

-- what may come next: a new label, a label taken, retired by another or cut, a plan published, or a forward label and a
-- backward one joined, where no name stands for the root
pub data Event : Type 0 where
  InsertLabel : (end : End) (path : List ℕ) → Event
  TakeLabel : (id : Id) → Event
  RetireLabel : (id by : Id) → Event
  CutLabel : (id : Id) → Event
  Publish : (plan : List Acquisition) → Event
  JoinLabels : (forward backward : Option Id) → Event

-- a new label: a label path of the side that isn't there yet
pub record CanInsert (I : Orbit) (H : ℕ) (s : CoreState) (e : End) (path : List ℕ) : Type 0 where
  pub is_path : LabelPath (face_of I H e) path
  pub is_new : IsListed s e path → ⊥

-- a label is taken: it waits
pub record CanTake (s : CoreState) (id : Id) : Type 0 where
  pub there : IsThere s id
  pub waits : state_of s id ≡ Waiting

-- a live label is retired by another live label of its side that dominates it
pub record CanRetire (I : Orbit) (s : CoreState) (id by : Id) : Type 0 where
  pub live : IsLiveAt s id
  pub by_live : IsLiveAt s by
  pub one_side : by.end ≡ id.end
  pub differ : id ≢ by
  pub dominated : Dominates (facing I id.end) (path_of s by) (path_of s id)

-- a live label is cut: its bound is at most the incumbent's gain
pub record CanCut (I : Orbit) (s : CoreState) (id : Id) : Type 0 where
  pub live : IsLiveAt s id
  pub bounded : bound (facing I id.end) (path_of s id) ≤ gain_of I s.incumbent

-- a plan is published: it is feasible and gains at least what the incumbent gains
pub record CanPublish (I : Orbit) (s : CoreState) (plan : List Acquisition) : Type 0 where
  pub feasible : Feasible I plan
  pub gains : gain_of I s.incumbent ≤ gain_of I plan

-- the root, or a live label of the side
abbrev pub MayJoin : CoreState → End → Option Id → Type 0
MayJoin s e None = ⊤
MayJoin s e (Some id) = (id.end ≡ e) × IsLiveAt s id

-- the path of the root or of the label
abbrev pub joining_path : CoreState → Option Id → List ℕ
joining_path s None = []
joining_path s (Some id) = path_of s id

-- two of them are joined: they join, and gain at least what the incumbent gains
pub record CanJoin (I : Orbit) (s : CoreState) (f b : Option Id) : Type 0 where
  pub forward : MayJoin s Forward f
  pub backward : MayJoin s Backward b
  pub joins : Joins I (joining_path s f) (joining_path s b)
  pub gains : gain_of I s.incumbent ≤ join_gain I (joining_path s f) (joining_path s b)

-- The event has a step: it is one of those.
abbrev pub CanStep : Orbit → ℕ → CoreState → Event → Type 0
CanStep I H s (InsertLabel e path) = CanInsert I H s e path
CanStep I H s (TakeLabel id) = CanTake s id
CanStep I H s (RetireLabel id by) = CanRetire I s id by
CanStep I H s (CutLabel id) = CanCut I s id
CanStep I H s (Publish plan) = CanPublish I s plan
CanStep I H s (JoinLabels f b) = CanJoin I s f b

-- The state after the step. What isn't named stays.
abbrev pub after : Orbit → CoreState → Event → CoreState
after I s (InsertLabel e path) =
    with_labels s e (bucket_of path) (labels_in s e (bucket_of path) ++ record { path = path; state = Waiting } ∷ [])
after I s (TakeLabel id) = with_state s id Taken
after I s (RetireLabel id by) = with_note (with_state s id (Retired by.index)) (Retires id by)
after I s (CutLabel id) = with_note (with_state s id Cut) (Cuts id)
after I s (Publish plan) = record s { incumbent = plan }
after I s (JoinLabels f b) = record s { incumbent = joined_plan I (joining_path s f) (joining_path s b) }

-- A legal run leads from the first state to the last: each event has a step, one after another.
abbrev pub IsRun : Orbit → ℕ → CoreState → List Event → CoreState → Type 0
IsRun I H s [] t = s ≡ t
IsRun I H s (event ∷ events) t = CanStep I H s event × IsRun I H (after I s event) events t
