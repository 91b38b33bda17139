-- The labels of one side as contracts see them: their paths and their states.
use Rattle.std.specs.Prelude.{◌≡◌, ◌≢◌, ℕ, ◌<◌, Bool, true, false, List, [], ◌∷◌, length, set, slice_index_or}
use Rattle.label_list.specs.declared.state.State.{State}
use Rattle.label_list.specs.declared.state.State.TheVariants.{Waiting, Taken, Retired, Cut}
use Rattle.strip_model.specs.Side.{Face}

-- a label: its path and its state. Its id is its place in the list of labels.
pub record Held : Type 0 where
  pub path : List ℕ
  pub state : State

-- what is read past the end of a list of labels
abbrev pub no_held : Held
no_held = record { path = []; state = Cut }

-- the label with this id, its path and its state
abbrev pub held_at : List Held → ℕ → Held
held_at hs k = slice_index_or hs k no_held

abbrev pub path_of : List Held → ℕ → List ℕ
path_of hs k = (held_at hs k).path

abbrev pub state_of : List Held → ℕ → State
state_of hs k = (held_at hs k).state

-- a label is live while it waits or is taken
abbrev pub is_live : State → Bool
is_live Waiting = true
is_live Taken = true
is_live (Retired by) = false
is_live Cut = false

-- the label is there, and it is live
pub record IsLive (hs : List Held) (k : ℕ) : Type 0 where
  pub there : k < length hs
  pub live : is_live (state_of hs k) ≡ true

-- the labels, of which one has another state now
abbrev pub with_state : List Held → ℕ → State → List Held
with_state hs k s = set hs k (record { path = path_of hs k; state = s })

-- the last number of a list, and 0 of the empty one
abbrev pub last_of : List ℕ → ℕ
last_of [] = 0
last_of (x ∷ []) = x
last_of (x ∷ y ∷ ys) = last_of (y ∷ ys)

-- no label has this path, whatever its state
abbrev pub IsAbsent : List Held → List ℕ → Type 0
IsAbsent hs path = (k : ℕ) → k < length hs → path_of hs k ≢ path

-- A list of labels: its side, and the labels by id.
pub record Listed : Type 0 where
  pub face : Face
  pub labels : List Held

-- the list with other labels
abbrev pub with_labels : Listed → List Held → Listed
with_labels l labels = record { face = l.face; labels = labels }
