-- A log beside the instance that it is of.
use Rattle.std.specs.Prelude.{◌≡◌, ℕ, ◌<◌, ◌≤◌, length}
use Rattle.label.specs.Sides.{BothFaces}
use Rattle.label.specs.declared.limits.TheConstants.{MAX_LISTED}
use Rattle.log_check.specs.Faults.{KeepsLabelRule}
use Rattle.proof_log.specs.Labels.{paths_in}
use Rattle.proof_log.specs.declared.log.Log.{Log}
use Rattle.strip_model.specs.Orbit.{Orbit}
use Rattle.strip_model.specs.Side.{Face, face_of}
use Rattle.strip_model.specs.declared.end.End.{End}
use Rattle.strip_model.specs.declared.end.End.TheVariants.{Forward, Backward}

-- an instance and a log
pub record Read : Type 0 where
  pub instance : Orbit
  pub log : Log

-- the side of the instance at an end, with the cut that the log names
abbrev pub face_in : Read → End → Face
face_in r e = face_of r.instance r.log.cut e

-- each list of paths has few enough to be numbered
pub record HasFewLabels (log : Log) : Type 0 where
  pub forward : length (paths_in log Forward) ≤ MAX_LISTED
  pub backward : length (paths_in log Backward) ≤ MAX_LISTED

-- the log has few labels, and these are the sides of the instance with the cut that it names
pub record IsReading (I : Orbit) (log : Log) (sides : BothFaces) : Type 0 where
  pub few : HasFewLabels log
  pub instance : sides.instance ≡ I
  pub cut : sides.cut ≡ log.cut

-- the third rule is kept by all labels
abbrev pub AreRight : Orbit → Log → Type 0
AreRight I log = (e : End) (k : ℕ) → k < length (paths_in log e) → KeepsLabelRule I log e k
