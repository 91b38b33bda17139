-- The labels that no mark marks.
use Rattle.std.specs.Prelude.{◌≡◌, ℕ, suc, ◌<◌, List, length, slice_get, Some}
use Rattle.label.specs.declared.label.Label.{Label}
use Rattle.log_check.specs.Faults.{IsStanding}
use Rattle.label.specs.Labels.{IsLabelWith}
use Rattle.log_check.specs.declared.standing.Standing.{Standing}
use Rattle.proof_log.specs.Labels.{paths_in, path_at}
use Rattle.proof_log.specs.declared.log.Log.{Log}
use Rattle.strip_model.specs.Orbit.{Orbit}
use Rattle.strip_model.specs.Side.{face_of}
use Rattle.strip_model.specs.declared.end.End.{End}

-- These labels are, in their order, those of a side with numbers below `count` that no mark marks, and these are their
-- numbers.
pub record StandBelow (I : Orbit) (log : Log) (e : End) (count : ℕ) (labels : List Label) (places : List ℕ) : Type 0 where
  pub size : length places ≡ length labels
  pub each : (i k : ℕ) (label : Label) → slice_get labels i ≡ Some label → slice_get places i ≡ Some k
      → IsLabelWith (face_of I log.cut e) (path_at log e k) label × IsStanding log e (suc k)
  pub below : (i k : ℕ) → slice_get places i ≡ Some k → k < count
  pub all : (k : ℕ) → IsStanding log e (suc k) → k < count → (i : ℕ) × (slice_get places i ≡ Some k)
  pub rising : (i j k m : ℕ) → i < j → slice_get places i ≡ Some k → slice_get places j ≡ Some m → k < m

-- these are all the labels of a side that no mark marks
abbrev pub AreStanding : Orbit → Log → End → Standing → Type 0
AreStanding I log e standing = StandBelow I log e (length (paths_in log e)) standing.labels.items standing.places.items
