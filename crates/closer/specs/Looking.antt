-- What a look at those that wait finds.
use Rattle.std.specs.Prelude.{◌≡◌, ◌⊎◌, ℕ, ◌<◌, ◌∷◌, ◌++◌, [], true, false, List, map, slice_index_or, Contains}
use Rattle.std.specs.declared.cmp.Reverse.{Reverse}
use Rattle.closer.specs.Searching.{Names, end_of, path_in}
use Rattle.closer.specs.declared.looking.Look.{Look}
use Rattle.closer.specs.declared.wait.Wait.{Wait}
use Rattle.label_core.specs.CoreState.{IsListed}
use Rattle.label_core.specs.Machine.{Machine}
use Rattle.admission.specs.CarefulRuns.{IsExtended}
use Rattle.strip_model.specs.LabelPath.{LabelPath}
use Rattle.strip_model.specs.Side.{face_of}

-- what waits is extended by the directed strip, if that makes a label path
abbrev pub IsExtendedBy : Machine → Wait → ℕ → Type 0
IsExtendedBy m w y = LabelPath (face_of m.instance m.cut (end_of w)) (path_in m w ++ y ∷ [])
    → IsListed m.state (end_of w) (path_in m w ++ y ∷ [])

-- what waits lacks its extension by the directed strip: that makes a label path, which is not in the list
pub record Lacks (m : Machine) (w : Wait) (y : ℕ) : Type 0 where
  pub path : LabelPath (face_of m.instance m.cut (end_of w)) (path_in m w ++ y ∷ [])
  pub missing : IsListed m.state (end_of w) (path_in m w ++ y ∷ []) → ⊥

-- all that waits is a root or a label
abbrev pub AreNamed : Machine → List Wait → Type 0
AreNamed m waiting = (w : Wait) → Contains waiting w → Names m w

-- nothing more waits, and what waits no more is extended by all
pub record Narrows (m : Machine) (old new : List Wait) : Type 0 where
  pub only : (w : Wait) → Contains new w → Contains old w
  pub kept : (w : Wait) → Contains old w → Contains new w ⊎ IsExtended m (end_of w) (path_in m w)

-- a look was made: where nothing may be lacking, what waits is extended by all
pub record IsLooked (m : Machine) (before later : Look) : Type 0 where
  pub same : later.wait ≡ before.wait
  pub whole : later.may_lack ≡ false → IsExtended m (end_of before.wait) (path_in m before.wait)

-- the looks at what waits in a heap, before they are made
abbrev pub first_looks : List (Reverse Wait) → List Look
first_looks waits = map (λ (r : Reverse Wait). record { wait = r.0; may_lack = true }) waits

-- what waits in looks
abbrev pub looked_at : List Look → List Wait
looked_at looks = map (λ (l : Look). l.wait) looks

-- of the first n looks those wait in which something may be lacking, and nothing else does
pub record AreLeft (looks : List Look) (n : ℕ) (waiting : List Wait) : Type 0 where
  pub only : (w : Wait) → Contains waiting w → Contains (looked_at looks) w
  pub all : (k : ℕ) (d : Look) → k < n → (slice_index_or looks k d).may_lack ≡ true → Contains waiting (slice_index_or looks k d).wait
