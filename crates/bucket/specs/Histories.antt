-- The labels of a bucket as contracts see them, and the history that leads to them.
use Rattle.std.specs.Prelude.{◌≡◌, ◌≢◌, ℕ, ◌%◌, ◌<◌, ◌≤◌, List, [], ◌∷◌, ◌++◌, length, ⊤}
use Rattle.bucket.specs.declared.limits.TheConstants.{MAX_LABELS, BUCKETS}
use Rattle.label_list.specs.Labels.{Held, path_of, state_of, IsLive, with_state, last_of, IsAbsent}
use Rattle.label_list.specs.declared.state.State.TheVariants.{Waiting, Taken, Retired, Cut}
use Rattle.strip_model.specs.Dominance.{Dominates}
use Rattle.strip_model.specs.LabelPath.{LabelPath}
use Rattle.strip_model.specs.Side.{Face}

-- An entry of a history. An insertion has its path, so a history fixes the paths of the labels and their states.
pub data Step : Type 0 where
  Inserts : (id : ℕ) (path : List ℕ) → Step
  Takes : (id : ℕ) → Step
  Retires : (id by : ℕ) → Step
  Cuts : (id : ℕ) → Step

-- the labels after one more entry
abbrev pub after : List Held → Step → List Held
after hs (Inserts k path) = hs ++ record { path = path; state = Waiting } ∷ []
after hs (Takes k) = with_state hs k Taken
after hs (Retires k by) = with_state hs k (Retired by)
after hs (Cuts k) = with_state hs k Cut

-- the labels after more entries, one after another
abbrev pub after_all : List Held → List Step → List Held
after_all hs [] = hs
after_all hs (e ∷ es) = after_all (after hs e) es

-- the labels that a history leads to, from none
unfoldable pub replay : List Step → List Held
replay es = after_all [] es

-- the bucket in which a path's label stands: by its last directed strip
abbrev pub bucket_of : List ℕ → ℕ
bucket_of path = last_of path % BUCKETS

-- a label path of the side that belongs into this bucket and isn't there can be inserted; its id is the number of labels
pub record CanInsert (S : Face) (number : ℕ) (hs : List Held) (k : ℕ) (path : List ℕ) : Type 0 where
  pub next : k ≡ length hs
  pub is_path : LabelPath S path
  pub here : bucket_of path ≡ number
  pub is_new : IsAbsent hs path

-- a label that waits can be taken
pub record CanTake (hs : List Held) (k : ℕ) : Type 0 where
  pub there : k < length hs
  pub waits : state_of hs k ≡ Waiting

-- a live label can be retired by another live label, which dominates it
pub record CanRetire (S : Face) (hs : List Held) (k by : ℕ) : Type 0 where
  pub live : IsLive hs k
  pub by_live : IsLive hs by
  pub differ : k ≢ by
  pub dominated : Dominates S.instance (path_of hs by) (path_of hs k)

-- the entry is a step that these labels allow; a live label can be cut
abbrev pub IsLegal : Face → ℕ → List Held → Step → Type 0
IsLegal S number hs (Inserts k path) = CanInsert S number hs k path
IsLegal S number hs (Takes k) = CanTake hs k
IsLegal S number hs (Retires k by) = CanRetire S hs k by
IsLegal S number hs (Cuts k) = IsLive hs k

-- each entry is a step that the labels before it allow
abbrev pub AllLegal : Face → ℕ → List Held → List Step → Type 0
AllLegal S number hs [] = ⊤
AllLegal S number hs (e ∷ es) = IsLegal S number hs e × AllLegal S number (after hs e) es

-- a legal history of the bucket with this number: each entry is legal at its place, and there aren't too many labels
pub record IsHistory (S : Face) (number : ℕ) (es : List Step) : Type 0 where
  pub legal : AllLegal S number [] es
  pub few : length (replay es) ≤ MAX_LABELS

-- Of the live labels none dominates another. A label dominates only one with its own last directed strip.
abbrev pub Antichain : Face → List Held → Type 0
Antichain S hs =
    (j k : ℕ) → IsLive hs j → IsLive hs k → j ≢ k → ¬ Dominates S.instance (path_of hs j) (path_of hs k)
