-- What the parts of the reader find.
use Rattle.std.specs.Prelude.{◌≡◌, ℕ, ◌-◌, ◌<◌, ◌≤◌, List, [], ◌∷◌, ◌++◌, length, map, codes, All}
use Rattle.std.specs.List.{flat_map}
use Rattle.plan_check.specs.PlanText.{count_line, acquisition_line, IsAcquisitionInText}
use Rattle.seq_io.specs.Line.{spelled_line}
use Rattle.seq_io.specs.StrictText.{Field, TheWord, ANumber, Rest, at_line, unread}
use Rattle.strip_model.specs.declared.acquisition.Acquisition.{Acquisition}
use Rattle.strip_model.specs.declared.limits.TheConstants.{MAX_HORIZON, MAX_STRIPS}

-- what the tokens of each line must be: `strips` and how many there are
abbrev pub count_fields : List Field
count_fields = TheWord (codes "strips") ∷ ANumber MAX_STRIPS ∷ []

-- the start, the strip and the direction
abbrev pub acquisition_fields : List Field
acquisition_fields = ANumber MAX_HORIZON ∷ ANumber (MAX_STRIPS - 1) ∷ ANumber 1 ∷ []

-- `end`
abbrev pub end_fields : List Field
end_fields = TheWord (codes "end") ∷ []

-- the reader stands at the beginning of a line
abbrev pub IsLineBegun : Rest → Type 0
IsLineBegun rest = rest ≡ at_line rest.line (unread rest)

-- the bytes begin with no line that says how many acquisitions come
abbrev pub HasNoCount : List ℕ → Type 0
HasNoCount bytes =
    (count : ℕ) (rest : List ℕ) → count ≤ MAX_STRIPS → bytes ≡ spelled_line (count_line count) ++ rest → ⊥

-- the bytes begin with no line of an acquisition within the ranges
abbrev pub HasNoAcquisition : List ℕ → Type 0
HasNoAcquisition bytes =
    (a : Acquisition) (rest : List ℕ) → IsAcquisitionInText a → bytes ≡ spelled_line (acquisition_line a) ++ rest → ⊥

-- The bytes begin with the lines of these acquisitions, which are as many as are wanted, or else the line after them is
-- that of no acquisition.
pub record BeginWith (wanted : ℕ) (bytes : List ℕ) (plan : List Acquisition) (rest : List ℕ) : Type 0 where
  pub few : length plan ≤ wanted
  pub in_range : All IsAcquisitionInText plan
  pub lines : bytes ≡ flat_map spelled_line (map acquisition_line plan) ++ rest
  pub stop : length plan < wanted → HasNoAcquisition rest

-- The lines of these acquisitions were read, and where they are as many as are wanted, the next line begins.
pub record HasRead (wanted : ℕ) (old : Rest) (plan : List Acquisition) (new : Rest) : Type 0 where
  pub rest : List ℕ
  pub found : BeginWith wanted (unread old) plan rest
  pub next : length plan ≡ wanted → new ≡ at_line new.line rest
