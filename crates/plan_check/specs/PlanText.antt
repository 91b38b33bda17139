-- The text of a plan.
use Rattle.std.specs.Prelude.{◌≡◌, ℕ, ◌<◌, ◌≤◌, List, [], ◌∷◌, ◌++◌, length, map, All, codes, decimal}
use Rattle.std.specs.List.{flat_map}
use Rattle.seq_io.specs.Line.{spelled_line}
use Rattle.strip_model.specs.Directed.{strip_of, direction_of}
use Rattle.strip_model.specs.declared.acquisition.Acquisition.{Acquisition}
use Rattle.strip_model.specs.declared.limits.TheConstants.{MAX_HORIZON, MAX_STRIPS}

-- `strips` and how many there are
abbrev pub count_line : ℕ → List (List ℕ)
count_line count = codes "strips" ∷ decimal count ∷ []

-- the start, the strip and the direction
abbrev pub acquisition_line : Acquisition → List (List ℕ)
acquisition_line a = decimal a.start ∷ decimal (strip_of a.at) ∷ decimal (direction_of a.at) ∷ []

-- `end`
abbrev pub end_line : List (List ℕ)
end_line = codes "end" ∷ []

-- the lines that tell the acquisitions of a plan: how many there are, and a line for each
abbrev pub acquisition_lines : List Acquisition → List (List (List ℕ))
acquisition_lines plan = count_line (length plan) ∷ map acquisition_line plan

-- the lines of a plan's text
abbrev pub plan_lines : List Acquisition → List (List (List ℕ))
plan_lines plan = acquisition_lines plan ++ end_line ∷ []

-- the one spelling of a plan
abbrev pub plan_spelling : List Acquisition → List ℕ
plan_spelling plan = flat_map spelled_line (plan_lines plan)

-- an acquisition within the ranges of a text
pub record IsAcquisitionInText (a : Acquisition) : Type 0 where
  pub start : a.start ≤ MAX_HORIZON
  pub strip : strip_of a.at < MAX_STRIPS

-- a plan within the ranges of a text
pub record IsPlanInText (plan : List Acquisition) : Type 0 where
  pub few : length plan ≤ MAX_STRIPS
  pub each : All IsAcquisitionInText plan

-- The bytes are the text of a plan: it is within the ranges, and they spell it.
pub record IsPlanText (bytes : List ℕ) (plan : List Acquisition) : Type 0 where
  pub in_range : IsPlanInText plan
  pub spelling : bytes ≡ plan_spelling plan
