-- Which line of a text is the first that can't stand in a plan's text.
use Rattle.std.specs.Prelude.{◌≡◌, ℕ, zero, suc, ◌+◌, ◌≤◌, ⊤, List, [], ◌∷◌, ◌++◌, length}
use Rattle.std.specs.List.{flat_map}
use Rattle.plan_check.specs.PlanText.{count_line, acquisition_line, end_line, IsAcquisitionInText, IsPlanText}
use Rattle.plan_check.specs.declared.refusal.PlanRefusal.{PlanRefusal}
use Rattle.plan_check.specs.declared.refusal.PlanRefusal.TheVariants.{Refused, Memory}
use Rattle.seq_io.specs.Line.{spelled_line}
use Rattle.strip_model.specs.declared.acquisition.Acquisition.{Acquisition}
use Rattle.strip_model.specs.declared.limits.TheConstants.{MAX_STRIPS}

-- the line of an acquisition within the ranges
abbrev pub IsAcquisitionLine : List (List ℕ) → Type 0
IsAcquisitionLine line = (a : Acquisition) × IsAcquisitionInText a × (line ≡ acquisition_line a)

-- lines that can stand after the first where so many acquisitions are to come: first these, then `end`, then nothing
abbrev pub StandAfter : ℕ → List (List (List ℕ)) → Type 0
StandAfter count [] = ⊤
StandAfter zero (line ∷ lines) = (line ≡ end_line) × (lines ≡ [])
StandAfter (suc count) (line ∷ lines) = IsAcquisitionLine line × StandAfter count lines

-- lines that can stand at the beginning of a text: the first says how many acquisitions come
abbrev pub Stand : List (List (List ℕ)) → Type 0
Stand [] = ⊤
Stand (line ∷ lines) = (count : ℕ) × (count ≤ MAX_STRIPS) × (line ≡ count_line count) × StandAfter count lines

-- Line n, counted from 1, is the first that can't stand: the lines before it stand, whatever line the rest of the bytes
-- begins with doesn't stand after them, and the bytes aren't the text of a plan, which has no further line.
pub record IsFirstBadLine (bytes : List ℕ) (n : ℕ) : Type 0 where
  pub lines : List (List (List ℕ))
  pub rest : List ℕ
  pub number : n ≡ length lines + 1
  pub split : bytes ≡ flat_map spelled_line lines ++ rest
  pub stand : Stand lines
  pub stop : (line : List (List ℕ)) (after : List ℕ) → rest ≡ spelled_line line ++ after → Stand (lines ++ line ∷ []) → ⊥
  pub unfinished : (plan : List Acquisition) → IsPlanText bytes plan → ⊥

-- the refusal names the first line that can't stand, or memory ran out
abbrev pub IsRefusedAs : List ℕ → PlanRefusal → Type 0
IsRefusedAs bytes (Refused n) = IsFirstBadLine bytes n
IsRefusedAs bytes Memory = ⊤
