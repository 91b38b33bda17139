-- Entries that stand for the labels of a list and its root.
use Rattle.std.specs.Prelude.{◌≡◌, ◌⊎◌, ℕ, ◌≤◌, List, [], ◌∷◌, ◌++◌, length, slice_get, Some}
use Rattle.std.specs.List.Sorted.{IsNonDecreasingBy}
use Rattle.joiner.specs.Entries.{root, IsSound}
use Rattle.joiner.specs.Pairs.{place_of, path_at}
use Rattle.joiner.specs.Tips.{IsTipOf, IsTipAt}
use Rattle.joiner.specs.declared.entry.Entry.{Entry}
use Rattle.joiner.specs.declared.ranked.Ranked.{Ranked}
use Rattle.joiner.specs.declared.tip.Tip.{Tip}
use Rattle.label.specs.declared.label.Label.{Label}
use Rattle.strip_model.specs.Orbit.{Orbit}
use Rattle.strip_model.specs.Reach.{bound}
use Rattle.strip_model.specs.declared.end.End.{End}
use Rattle.strip_model.specs.declared.end.End.TheVariants.{Forward}

-- the entry of the label at place k of its list
pub record IsEntry (J : Orbit) (e : End) (k : ℕ) (label : Label) (w : Entry) : Type 0 where
  pub tip : Tip
  pub has_tip : w.tip ≡ Some tip
  pub of : IsTipOf J e label.path.items tip
  pub place : w.place ≡ Some k
  pub sound : IsSound J w

-- one entry for each of the first labels, in the same order
pub record AreEntries (J : Orbit) (e : End) (labels : List Label) (n : ℕ) (entries : List Entry) : Type 0 where
  pub size : length entries ≡ n
  pub each : (k : ℕ) (label : Label) (w : Entry) → slice_get labels k ≡ Some label → slice_get entries k ≡ Some w → IsEntry J e k label w

-- a label's entry with the label's bound
pub record IsRanked (J : Orbit) (k : ℕ) (label : Label) (r : Ranked) : Type 0 where
  pub entry : IsEntry J Forward k label r.entry
  pub bound : r.bound ≡ bound J label.path.items

-- the same for each of the first labels
pub record AreRanked (J : Orbit) (labels : List Label) (n : ℕ) (order : List Ranked) : Type 0 where
  pub size : length order ≡ n
  pub each : (k : ℕ) (label : Label) (r : Ranked) → slice_get labels k ≡ Some label → slice_get order k ≡ Some r → IsRanked J k label r

-- the entry of the label or root at a place
pub record IsEntryAt (J : Orbit) (e : End) (labels : List Label) (i : ℕ) (w : Entry) : Type 0 where
  pub there : i ≤ length labels
  pub tip : IsTipAt J e (path_at labels i) w.tip
  pub place : place_of w.place ≡ i
  pub sound : IsSound J w

-- these entries are those of the labels of the list and its root
pub record Represents (J : Orbit) (e : End) (labels : List Label) (these : Entry → Type 0) : Type 0 where
  pub each : (w : Entry) → these w → (i : ℕ) × IsEntryAt J e labels i w
  pub all : (i : ℕ) → i ≤ length labels → (w : Entry) × these w × IsEntryAt J e labels i w

-- the entry of the root, or of a label in the ranking
abbrev pub IsFirst : List Ranked → Entry → Type 0
IsFirst order f = (f ≡ root) ⊎ ((k : ℕ) × (r : Ranked) × (slice_get order k ≡ Some r) × (r.entry ≡ f))

-- the ranking of forward labels by their bounds
pub record IsRanking (J : Orbit) (labels : List Label) (order : List Ranked) : Type 0 where
  pub represents : Represents J Forward labels (IsFirst order)
  pub bounds : (k : ℕ) (r : Ranked) → slice_get order k ≡ Some r → (i : ℕ) × IsEntryAt J Forward labels i r.entry × (r.bound ≡ bound J (path_at labels i))
  pub rising : IsNonDecreasingBy (λ r. r.bound) order

-- one more element, of which this holds
pub record IsPushed {X : Type 0} (P : X → Type 0) (before later : List X) : Type 0 where
  pub added : X
  pub holds : P added
  pub is : later ≡ before ++ added ∷ []
