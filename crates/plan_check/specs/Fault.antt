-- Faults of a plan, each at the place of an acquisition.
use Rattle.std.specs.Prelude.{◌≡◌, ℕ, ◌+◌, ◌-◌, ◌<◌, ◌≤◌, ◌⊎◌, true, false, Some, List, length, take, slice_index_or}
use Rattle.plan_check.specs.declared.fault.PlanFault.{PlanFault}
use Rattle.plan_check.specs.declared.fault.PlanFault.TheVariants.{NoSuchStrip, Twice, Early, Late, Manoeuvre, Twin}
use Rattle.strip_model.specs.Directed.{strip_of, has, has_strip}
use Rattle.strip_model.specs.Orbit.{Orbit, early_at, late_at, duration_at, manoeuvre_at, partner_of}
use Rattle.strip_model.specs.Plan.{order_of}
use Rattle.strip_model.specs.declared.acquisition.Acquisition.{Acquisition}

abbrev pub no_acquisition : Acquisition
no_acquisition = record { start = 0; at = 0 }

-- the acquisition at place k
abbrev pub acquisition_at : List Acquisition → ℕ → Acquisition
acquisition_at plan k = slice_index_or plan k no_acquisition

-- the place of a fault
abbrev pub place_of_fault : PlanFault → ℕ
place_of_fault (NoSuchStrip k) = k
place_of_fault (Twice k) = k
place_of_fault (Early k) = k
place_of_fault (Late k) = k
place_of_fault (Manoeuvre k) = k
place_of_fault (Twin k) = k

-- where a fault stands among those of one place
abbrev pub rank_of_fault : PlanFault → ℕ
rank_of_fault (NoSuchStrip k) = 0
rank_of_fault (Twice k) = 1
rank_of_fault (Early k) = 2
rank_of_fault (Late k) = 3
rank_of_fault (Manoeuvre k) = 4
rank_of_fault (Twin k) = 5

-- the rule that a fault names is broken at its place: no such strip, a strip that stands before, a start before or after
-- the window, a start before the acquisition before is over and the satellite has turned, or a twin that is missing
abbrev pub BreaksRule : Orbit → List Acquisition → PlanFault → Type 0
BreaksRule J plan (NoSuchStrip k) = length J.strips ≤ strip_of (acquisition_at plan k).at
BreaksRule J plan (Twice k) = has_strip (strip_of (acquisition_at plan k).at) (order_of (take k plan)) ≡ true
BreaksRule J plan (Early k) = (acquisition_at plan k).start < early_at J (acquisition_at plan k).at
BreaksRule J plan (Late k) = late_at J (acquisition_at plan k).at < (acquisition_at plan k).start
BreaksRule J plan (Manoeuvre k) =
    let before = acquisition_at plan (k - 1) in
    let a = acquisition_at plan k in
    (0 < k) × (a.start < before.start + duration_at J before.at + manoeuvre_at J before.at a.at)
BreaksRule J plan (Twin k) = (y : ℕ) × (partner_of J (acquisition_at plan k).at ≡ Some y) × (has y (order_of plan) ≡ false)

-- The plan has the fault: its place is one of the plan's, and its rule is broken there.
pub record HasFault (J : Orbit) (plan : List Acquisition) (fault : PlanFault) : Type 0 where
  pub there : place_of_fault fault < length plan
  pub broken : BreaksRule J plan fault

-- the first fault is at an earlier place, or at the same and tested no later
abbrev pub ComesNoLater : PlanFault → PlanFault → Type 0
ComesNoLater fault other =
    (place_of_fault fault < place_of_fault other)
    ⊎ ((place_of_fault fault ≡ place_of_fault other) × (rank_of_fault fault ≤ rank_of_fault other))

-- The plan has the fault, and no other that comes before it.
pub record IsFirstFault (J : Orbit) (plan : List Acquisition) (fault : PlanFault) : Type 0 where
  pub stands : HasFault J plan fault
  pub first : (other : PlanFault) → HasFault J plan other → ComesNoLater fault other

-- the plan has no fault at a place below k
abbrev pub HasNoFaultBelow : Orbit → List Acquisition → ℕ → Type 0
HasNoFaultBelow J plan k = (fault : PlanFault) → HasFault J plan fault → k ≤ place_of_fault fault

-- the plan has no fault
abbrev pub IsFaultless : Orbit → List Acquisition → Type 0
IsFaultless J plan = (fault : PlanFault) → HasFault J plan fault → ⊥
