-- The state of the core: labels, marks and the best plan so far.
use Rattle.std.specs.Prelude.{◌≡◌, ℕ, ◌<◌, Bool, true, List, [], ◌∷◌, ◌++◌, length, get_or, set, replicate, if◌then◌else◌, ◌⊎◌}
use Rattle.std.specs.List.{list_any}
use Rattle.label_list.specs.Labels.{Held, no_held, is_live}
use Rattle.bucket.specs.declared.limits.TheConstants.{BUCKETS}
use Rattle.label_list.specs.declared.state.State.{State}
use Rattle.bucket.specs.declared.id.Id.{Id}
pub use Rattle.label_core.specs.declared.note.Note.{Note}
pub use Rattle.label_core.specs.declared.note.Note.TheVariants.{Retires, Cuts}
use Rattle.label_core.specs.Ids.{same_id}
use Rattle.proof_log.specs.Labels.{same_end}
use Rattle.strip_model.specs.declared.acquisition.Acquisition.{Acquisition}
use Rattle.strip_model.specs.declared.end.End.{End}
use Rattle.strip_model.specs.declared.end.End.TheVariants.{Forward, Backward}

-- the label that is marked
abbrev pub marked_by : Note → Id
marked_by (Retires label by) = label
marked_by (Cuts label) = label

-- whether one of the marks marks the label
abbrev pub is_noted : Id → List Note → Bool
is_noted id notes = list_any (λ note. same_id (marked_by note) id) notes

-- The labels of each side by bucket, in each in the order in which they came; the marks in the order in which they came; and
-- the incumbent, which is the best plan so far.
pub record CoreState : Type 0 where
  pub forward : List (List Held)
  pub backward : List (List Held)
  pub notes : List Note
  pub incumbent : List Acquisition

-- at first: no labels, no marks, and the empty plan
abbrev pub opening : CoreState
opening = record { forward = replicate BUCKETS []; backward = replicate BUCKETS []; notes = []; incumbent = [] }

-- the buckets of a side
abbrev pub buckets_of : CoreState → End → List (List Held)
buckets_of s Forward = s.forward
buckets_of s Backward = s.backward

-- the labels of a bucket; none past the last bucket
unfoldable pub labels_in : CoreState → End → ℕ → List Held
labels_in s e b = get_or (buckets_of s e) b []

-- there is a label of this name
abbrev pub IsThere : CoreState → Id → Type 0
IsThere s id = id.index < length (labels_in s id.end id.bucket)

-- the label of this name
unfoldable pub held_at : CoreState → Id → Held
held_at s id = get_or (labels_in s id.end id.bucket) id.index no_held

-- its path
abbrev pub path_of : CoreState → Id → List ℕ
path_of s id = (held_at s id).path

-- its state
abbrev pub state_of : CoreState → Id → State
state_of s id = (held_at s id).state

-- there is a label of this name, and it waits or is taken
pub record IsLiveAt (s : CoreState) (id : Id) : Type 0 where
  pub there : IsThere s id
  pub live : is_live (state_of s id) ≡ true

-- the labels that a mark names are there
abbrev pub NamesThere : CoreState → Note → Type 0
NamesThere s (Retires label by) = IsThere s label × IsThere s by
NamesThere s (Cuts label) = IsThere s label

-- the path is that of a label of the side, in whichever state
abbrev pub IsListed : CoreState → End → List ℕ → Type 0
IsListed s e path = (id : Id) × (id.end ≡ e) × IsThere s id × (path_of s id ≡ path)

-- the path is the root of the side, or that of a live label
abbrev pub IsLivePath : CoreState → End → List ℕ → Type 0
IsLivePath s e path = (path ≡ []) ⊎ ((id : Id) × (id.end ≡ e) × IsLiveAt s id × (path_of s id ≡ path))

-- the state with other labels in one bucket
abbrev pub with_labels : CoreState → End → ℕ → List Held → CoreState
with_labels s e b labels =
    record s {
      forward = if same_end e Forward then set s.forward b labels else s.forward;
      backward = if same_end e Backward then set s.backward b labels else s.backward;
    }

-- the state with the label of this name in another state
abbrev pub with_state : CoreState → Id → State → CoreState
with_state s id state =
    with_labels s id.end id.bucket (set (labels_in s id.end id.bucket) id.index (record { path = path_of s id; state = state }))

-- the state with one mark more
abbrev pub with_note : CoreState → Note → CoreState
with_note s note = record s { notes = s.notes ++ note ∷ [] }
