-- How a bucket keeps its history beside its labels.
use Rattle.std.specs.Prelude.{◌≡◌, ℕ, ◌*◌, ◌<◌, ◌≤◌, List, [], ◌∷◌, length, map, slice_index_or, ⊤}
use Rattle.std.specs.List.{All}
use Rattle.bucket.specs.Buckets.{Bin}
use Rattle.bucket.specs.Histories.{Step, replay, IsHistory, CanRetire}
use Rattle.bucket.specs.Histories.Step.{Inserts, Takes, Retires, Cuts}
use Rattle.bucket.specs.declared.entry.Entry.{Entry}
use Rattle.bucket.specs.declared.entry.Entry.TheVariants.{Insert, Take, Retire, Cut}
use Rattle.label_list.specs.Labels.{Held, Listed, with_state}
use Rattle.label_list.specs.declared.state.State.{State}
use Rattle.label_list.specs.declared.state.State.TheVariants.{Taken, Retired, Cut as WasCut}
use Rattle.strip_model.specs.Side.{Face}

-- the paths of labels, by id
abbrev pub paths_of : List Held → List (List ℕ)
paths_of hs = map (λ (h : Held). h.path) hs

-- the entry with its path, where the paths by id are these
abbrev pub step_of : List (List ℕ) → Entry → Step
step_of paths (Insert k) = Inserts k (slice_index_or paths k [])
step_of paths (Take k) = Takes k
step_of paths (Retire k by) = Retires k by
step_of paths (Cut k) = Cuts k

-- the entry without its path
abbrev pub entry_of : Step → Entry
entry_of (Inserts k path) = Insert k
entry_of (Takes k) = Take k
entry_of (Retires k by) = Retire k by
entry_of (Cuts k) = Cut k

-- the history of which these are the entries
abbrev pub steps_of : List (List ℕ) → List Entry → List Step
steps_of paths es = map (step_of paths) es

-- the bucket with this number that is kept so
abbrev pub bin_of : ℕ → Listed → List Entry → Bin
bin_of number list es = record { side = list.face; number = number; history = steps_of (paths_of list.labels) es }

-- the insertion names one of the first n labels, so that no later label changes its path
abbrev pub NamesBelow : ℕ → Entry → Type 0
NamesBelow n (Insert k) = k < n
NamesBelow n (Take k) = ⊤
NamesBelow n (Retire k by) = ⊤
NamesBelow n (Cut k) = ⊤

-- What a store keeps: its history is legal and leads to its labels, and there is room for all entries that its labels may
-- still have.
pub record Keeps (number : ℕ) (list : Listed) (es : List Entry) (capacity : ℕ) : Type 0 where
  pub history : IsHistory list.face number (steps_of (paths_of list.labels) es)
  pub replays : replay (steps_of (paths_of list.labels) es) ≡ list.labels
  pub named : All (NamesBelow (length list.labels)) es
  pub room : 3 * length list.labels ≤ capacity

-- the entry is not an insertion, it is of this label, and it brings this state
abbrev pub IsMark : ℕ → State → Entry → Type 0
IsMark id s (Insert k) = ⊥
IsMark id s (Take k) = (k ≡ id) × (s ≡ Taken)
IsMark id s (Retire k by) = (k ≡ id) × (s ≡ Retired by)
IsMark id s (Cut k) = (k ≡ id) × (s ≡ WasCut)

-- these labels are live, and label `by`, which is live too, dominates each: it can retire them, one after another
abbrev pub AreRetirable : Face → List Held → ℕ → List ℕ → Type 0
AreRetirable S hs by [] = ⊤
AreRetirable S hs by (k ∷ ids) = CanRetire S hs k by × AreRetirable S (with_state hs k (Retired by)) by ids
