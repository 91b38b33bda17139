-- Where a log breaks a rule: each rule at its places, and the first fault of a log.
use Rattle.std.specs.Prelude.{◌≡◌, ◌≢◌, ℕ, zero, suc, ◌+◌, ◌<◌, ◌≤◌, ⊤, false, List, [], ◌∷◌, ◌++◌, length, get_or, take, slice_get, Option, Some, MatchOption}
use Rattle.plan_check.specs.Fault.{HasFault, place_of_fault}
use Rattle.plan_check.specs.declared.fault.PlanFault.{PlanFault}
use Rattle.proof_log.specs.Labels.{paths_in, path_at, is_marked, IsListed}
use Rattle.proof_log.specs.Rules.{NamesLabels, KeepsRetireRule, KeepsCutRule}
use Rattle.proof_log.specs.declared.log.Log.{Log}
use Rattle.proof_log.specs.declared.mark.Mark.{Mark}
use Rattle.strip_model.specs.Join.{Joins, join_gain}
use Rattle.strip_model.specs.LabelPath.{LabelPath}
use Rattle.strip_model.specs.Orbit.{Orbit}
use Rattle.strip_model.specs.Plan.{gain_of}
use Rattle.strip_model.specs.Side.{Face, face_of}
use Rattle.strip_model.specs.declared.end.End.{End}
use Rattle.strip_model.specs.declared.end.End.TheVariants.{Forward, Backward}

-- The seats of a side are its root, seat 0, and its labels: label k has seat k + 1. This is the path of a seat.
abbrev pub seat_path : Log → End → ℕ → List ℕ
seat_path log e zero = []
seat_path log e (suc k) = path_at log e k

-- the seat is the root, or that of a label that no mark marks
abbrev pub IsStanding : Log → End → ℕ → Type 0
IsStanding log e zero = ⊤
IsStanding log e (suc k) = (k < length (paths_in log e)) × (is_marked e k log.marks.items ≡ false)

-- the places of seats: first those of the forward side, then those of the backward side
abbrev pub first_seat : Log → End → ℕ
first_seat log Forward = 0
first_seat log Backward = suc (length log.forward.items)

-- Path k of a list is a label path of the side, and none before it is the same.
pub record IsNewLabel (S : Face) (paths : List (List ℕ)) (k : ℕ) : Type 0 where
  pub path : LabelPath S (get_or paths k [])
  pub once : (j : ℕ) → j < k → get_or paths j [] ≢ get_or paths k []

-- the third rule at label k of a side
abbrev pub KeepsLabelRule : Orbit → Log → End → ℕ → Type 0
KeepsLabelRule I log e k = IsNewLabel (face_of I log.cut e) (paths_in log e) k

-- where y extends a path, the longer path is listed
abbrev pub HasExtension : Orbit → Log → End → List ℕ → ℕ → Type 0
HasExtension I log e path y = LabelPath (face_of I log.cut e) (path ++ y ∷ []) → IsListed log e (path ++ y ∷ [])

-- the seventh rule at a seat of a side
abbrev pub KeepsExtensionRule : Orbit → Log → End → ℕ → Type 0
KeepsExtensionRule I log e p = (y : ℕ) → HasExtension I log e (seat_path log e p) y

-- the eighth rule at a forward seat
abbrev pub KeepsJoinRule : Orbit → Log → ℕ → Type 0
KeepsJoinRule I log p =
    (q : ℕ) → IsStanding log Backward q → Joins I (seat_path log Forward p) (seat_path log Backward q)
    → join_gain I (seat_path log Forward p) (seat_path log Backward q) ≤ log.gain

-- the eight rules, in the order in which they are tested
pub data Rule : Type 0 where
  PlanIsFeasible : Rule
  GainIsWritten : Rule
  LabelsAreRight : Rule
  MarksNameLabels : Rule
  RetiredAreDominated : Rule
  CutAreBounded : Rule
  AllAreExtended : Rule
  NoneJoinForMore : Rule

-- the number of a rule
abbrev pub number_of : Rule → ℕ
number_of PlanIsFeasible = 1
number_of GainIsWritten = 2
number_of LabelsAreRight = 3
number_of MarksNameLabels = 4
number_of RetiredAreDominated = 5
number_of CutAreBounded = 6
number_of AllAreExtended = 7
number_of NoneJoinForMore = 8

-- The rule is kept at a place: the first at an acquisition of the plan, the second at place 0, the third and the seventh
-- at a seat of either side, the fourth to the sixth at a mark, the eighth at a forward seat. Nothing is asked at a place
-- that the rule doesn't have.
abbrev pub Keeps : Orbit → Log → Rule → ℕ → Type 0
Keeps I log PlanIsFeasible n = (fault : PlanFault) → HasFault I log.plan.items fault → place_of_fault fault ≢ n
Keeps I log GainIsWritten n = n ≡ 0 → log.gain ≡ gain_of I log.plan.items
Keeps I log LabelsAreRight n = (e : End) (k : ℕ) → k < length (paths_in log e) → first_seat log e + suc k ≡ n → KeepsLabelRule I log e k
Keeps I log MarksNameLabels n = (m : Mark) → slice_get log.marks.items n ≡ Some m → NamesLabels log m
Keeps I log RetiredAreDominated n = (m : Mark) → slice_get log.marks.items n ≡ Some m → KeepsRetireRule I log (take n log.marks.items) m
Keeps I log CutAreBounded n = (m : Mark) → slice_get log.marks.items n ≡ Some m → KeepsCutRule I log (take n log.marks.items) m
Keeps I log AllAreExtended n = (e : End) (p : ℕ) → IsStanding log e p → first_seat log e + p ≡ n → KeepsExtensionRule I log e p
Keeps I log NoneJoinForMore n = IsStanding log Forward n → KeepsJoinRule I log n

-- the rule is kept everywhere
abbrev pub IsKept : Orbit → Log → Rule → Type 0
IsKept I log rule = (n : ℕ) → Keeps I log rule n

-- The rule is broken at this place, and at none before it.
pub record IsFirstPlace (I : Orbit) (log : Log) (rule : Rule) (place : ℕ) : Type 0 where
  pub broken : Keeps I log rule place → ⊥
  pub before : (n : ℕ) → n < place → Keeps I log rule n

-- the answer of the test of a rule: none where it is kept everywhere, and else the first place at which it is broken
abbrev pub IsTested : Orbit → Log → Rule → Option ℕ → Type 0
IsTested I log rule answer = MatchOption answer (IsKept I log rule) (IsFirstPlace I log rule)

-- The first fault: the rule is broken, at this place first, and each rule before it is kept everywhere.
pub record IsFirstFault (I : Orbit) (log : Log) (rule : Rule) (place : ℕ) : Type 0 where
  pub at : IsFirstPlace I log rule place
  pub earlier : (r : Rule) → number_of r < number_of rule → IsKept I log r
