-- What a pass has seen of the labels.
use Rattle.std.specs.Prelude.{◌≡◌, ◌≢◌, ◌⊎◌, ℕ, ◌<◌, ◌≤◌, false, List, [], ◌∷◌, ◌++◌, length}
use Rattle.board.specs.Passes.{BoardName, BoardPass, lock_at, side_at}
use Rattle.bucket.specs.Histories.{replay, bucket_of}
use Rattle.label_list.specs.Labels.{Held, path_of, state_of, is_live}
use Rattle.bucket.specs.declared.id.Id.{Id}
use Rattle.bucket.specs.declared.limits.TheConstants.{BUCKETS}
use Rattle.label_list.specs.declared.state.State.{State}
use Rattle.label_list.specs.declared.state.State.TheVariants.{Waiting}
use Rattle.strip_model.specs.LabelPath.{LabelPath}
use Rattle.strip_model.specs.declared.end.End.{End}

-- the labels of bucket k at an end, to which the history leads that the pass has seen of it; none where there is no such bucket
abbrev pub labels_seen : BoardPass → End → ℕ → List Held
labels_seen p e k = replay (lock_at p e k).seen

-- the pass has seen the label with this id: there is such a bucket, which has so many labels in the history that the pass has seen
pub record IsSeen (p : BoardPass) (id : Id) : Type 0 where
  pub bucket : id.bucket < BUCKETS
  pub there : id.index < length (labels_seen p id.end id.bucket)

-- it has seen no label with this id
abbrev pub IsUnseen : BoardPass → Id → Type 0
IsUnseen p id = (BUCKETS ≤ id.bucket) ⊎ (length (labels_seen p id.end id.bucket) ≤ id.index)

-- its path, and its state there
abbrev pub path_seen : BoardPass → Id → List ℕ
path_seen p id = path_of (labels_seen p id.end id.bucket) id.index

abbrev pub state_seen : BoardPass → Id → State
state_seen p id = state_of (labels_seen p id.end id.bucket) id.index

-- the pass has seen a label with this path
abbrev pub IsPathSeen : BoardPass → End → List ℕ → Type 0
IsPathSeen p e path = (k : ℕ) × (k < length (labels_seen p e (bucket_of path))) × (path_of (labels_seen p e (bucket_of path)) k ≡ path)

-- and one with each label path that extends this one by one directed strip
abbrev pub IsExtended : BoardName → BoardPass → End → List ℕ → Type 0
IsExtended b p e path = (y : ℕ) → LabelPath (side_at b e) (path ++ y ∷ []) → IsPathSeen p e (path ++ y ∷ [])

-- An id that was given: it names no label that the pass had seen before, or one that isn't waiting afterwards.
abbrev pub IsSettled : (before after : BoardPass) → Id → Type 0
IsSettled before after id = IsUnseen before id ⊎ (IsSeen after id × (state_seen after id ≢ Waiting))

-- A label that was taken: the pass has seen it, and it isn't live, or each label path that extends it by one directed strip was seen.
pub record IsDone (b : BoardName) (p : BoardPass) (id : Id) : Type 0 where
  pub seen : IsSeen p id
  pub done : (is_live (state_seen p id) ≡ false) ⊎ IsExtended b p id.end (path_seen p id)
