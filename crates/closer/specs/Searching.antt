-- What the search knows while it runs.
use Rattle.std.specs.Prelude.{◌≡◌, ◌≢◌, ◌⊎◌, ℕ, ◌+◌, ◌-◌, ◌*◌, ◌<◌, ◌≤◌, ◌==◌, if◌then◌else◌, List, [], ◌∷◌, ◌++◌, length, Contains, Option, Some, None}
use Rattle.closer.specs.Waiting.{id_of}
use Rattle.closer.specs.declared.agenda.Agenda.{Agenda}
use Rattle.closer.specs.declared.wait.Wait.{Wait}
use Rattle.label.specs.Labels.{IsLabelWith}
use Rattle.label.specs.declared.label.Label.{Label}
use Rattle.label_core.specs.CoreState.{path_of, IsThere, IsListed, IsLivePath}
use Rattle.label_core.specs.Machine.{Machine, IsReached, count_of}
use Rattle.admission.specs.CarefulRuns.{IsExtended, end_place}
use Rattle.admission.specs.Antichains.{HasAntichains, members_of}
use Rattle.strip_model.specs.LabelPath.{LabelPath}
use Rattle.strip_model.specs.Side.{face_of}
use Rattle.strip_model.specs.Starts.{Place, Root, After}
use Rattle.strip_model.specs.declared.end.End.{End}
use Rattle.strip_model.specs.declared.end.End.TheVariants.{Forward, Backward}

-- the side of which something waits
abbrev pub end_of : Wait → End
end_of w = (id_of w).end

-- the path that waits: the root's, or that of a label
abbrev pub path_in : Machine → Wait → List ℕ
path_in m w = if w.rank == 0 then [] else path_of m.state (id_of w)

-- the rank of a place: that of the root, or of a last start
abbrev pub rank_of : Place → ℕ
rank_of Root = 0
rank_of (After start last) = start + 1

-- what waits is a root or a label that is there, by its rank
pub record Names (m : Machine) (w : Wait) : Type 0 where
  pub there : w.rank ≢ 0 → IsThere m.state (id_of w)
  pub rank : rank_of (end_place m (end_of w) (path_in m w)) ≡ w.rank

-- there is no label of a root, and that of what else waits is the one at hand
abbrev pub IsParent : Machine → Wait → Option Label → Type 0
IsParent m w None = w.rank ≡ 0
IsParent m w (Some l) = (w.rank ≢ 0) × IsLabelWith (face_of m.instance m.cut (end_of w)) (path_in m w) l

-- the root or label path of the side waits
abbrev pub IsTodo : Machine → List Wait → End → List ℕ → Type 0
IsTodo m waiting e path = (w : Wait) × Contains waiting w × (end_of w ≡ e) × (path_in m w ≡ path)

-- the antichains of both sides are those of this state, and all that waits is a root or a label
pub record Keeps (m : Machine) (a : Agenda) : Type 0 where
  pub reached : IsReached m
  pub forward : HasAntichains m Forward (members_of a.forward.items)
  pub backward : HasAntichains m Backward (members_of a.backward.items)
  pub named : (w : Wait) → Contains a.queue w → Names m w

-- The search is between two labels: each root and each live label is extended by all label paths, or waits.
pub record IsSearching (m : Machine) (a : Agenda) : Type 0 where
  pub keeps : Keeps m a
  pub waits : (e : End) (path : List ℕ) → IsLivePath m.state e path → IsExtended m e path ⊎ IsTodo m a.queue e path

-- A root or a label is next: what waits begins no earlier, and each other root and live label is extended by all, or waits.
pub record IsNext (m : Machine) (a : Agenda) (now : Wait) : Type 0 where
  pub keeps : Keeps m a
  pub names : Names m now
  pub late : (w : Wait) → Contains a.queue w → now.rank ≤ w.rank
  pub waits : (e : End) (path : List ℕ) → IsLivePath m.state e path
      → (IsExtended m e path ⊎ IsTodo m a.queue e path) ⊎ ((e ≡ end_of now) × (path ≡ path_in m now))

-- A root or a live label is being extended: by each directed strip below y that makes a label path.
pub record IsExtending (m : Machine) (a : Agenda) (now : Wait) (y : ℕ) : Type 0 where
  pub next : IsNext m a now
  pub lives : IsLivePath m.state (end_of now) (path_in m now)
  pub done : (z : ℕ) → z < y → LabelPath (face_of m.instance m.cut (end_of now)) (path_in m now ++ z ∷ [])
      → IsListed m.state (end_of now) (path_in m now ++ z ∷ [])

-- what is left to do: the room twice, since each new label waits, and what waits
abbrev pub left_to_do : ℕ → Machine → Agenda → ℕ
left_to_do budget m a = 2 * (budget - count_of m.state) + length a.queue
