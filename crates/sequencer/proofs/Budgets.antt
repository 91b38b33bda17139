-- A careful run keeps its labels within the budget.
use Rattle.std.proofs.Common.{◌≡◌, ℕ, ◌+◌, ◌<◌, ◌≤◌, List, [], ◌∷◌, length, refl, subst, arith}
use Rattle.bucket.specs.Histories.{bucket_of}
use Rattle.label_list.specs.declared.state.State.TheVariants.{Waiting, Taken, Retired, Cut}
use Rattle.label_core.proofs.ClosedRuns.{IsOrderly-opening}
use Rattle.label_core.proofs.Cores.{count-with_state, count-inserted}
use Rattle.label_core.proofs.Orderly.{IsOrderly}
use Rattle.label_core.proofs.Steps.{IsOrderly-after}
use Rattle.label_core.specs.CoreState.{CoreState, opening, buckets_of}
use Rattle.label_core.specs.Events.{Event, InsertLabel, TakeLabel, RetireLabel, CutLabel, Publish, JoinLabels, after}
use Rattle.label_core.specs.Machine.{Machine, Can, stepped, count_of}
use Rattle.admission.specs.CarefulRuns.{TakesCare, IsCarefulRun, GoesCarefully}
use Rattle.sequencer.specs.Searching.{searched}
use Rattle.strip_model.specs.Orbit.{Orbit}
use Rattle.strip_model.specs.declared.end.End.{End}

-- each path has its bucket
bucket_below : (I : Orbit) (H : ℕ) (s : CoreState) (e : End) (path : List ℕ) → IsOrderly I H s → bucket_of path < length (buckets_of s e)
bucket_below I H s e path o = omega (arith, o.size e)

-- a step with care keeps the labels within the budget
step_within : (budget : ℕ) (m : Machine) (event : Event) → IsOrderly m.instance m.cut m.state → Can m event → TakesCare budget m event
    → count_of m.state ≤ budget → count_of (after m.instance m.state event) ≤ budget
step_within budget m (InsertLabel e path) o can care within =
    let more : count_of (after m.instance m.state (InsertLabel e path)) ≡ count_of m.state + 1 =
    count-inserted m.state e (bucket_of path) (record { path = path; state = Waiting }) (bucket_below m.instance m.cut m.state e path o) in
    omega (arith, care.room, more)
step_within budget m (TakeLabel id) o can care within =
    let same : count_of (after m.instance m.state (TakeLabel id)) ≡ count_of m.state = count-with_state m.state id Taken can.there in
    omega (arith, within, same)
step_within budget m (RetireLabel id by) o can care within =
    let same : count_of (after m.instance m.state (RetireLabel id by)) ≡ count_of m.state =
    count-with_state m.state id (Retired by.index) can.live.there in
    omega (arith, within, same)
step_within budget m (CutLabel id) o can care within =
    let same : count_of (after m.instance m.state (CutLabel id)) ≡ count_of m.state = count-with_state m.state id Cut can.live.there in
    omega (arith, within, same)
step_within budget m (Publish plan) o can care within = within
step_within budget m (JoinLabels f b) o can care within = within

run_within : (budget : ℕ) (m : Machine) (events : List Event) (t : Machine) → IsOrderly m.instance m.cut m.state → count_of m.state ≤ budget
    → IsCarefulRun budget m events t → count_of t.state ≤ budget
run_within budget m [] t o within run = subst (λ (x : Machine). count_of x.state ≤ budget) run within
run_within budget m (event ∷ events) t o within run =
    run_within budget (stepped m event) events t (IsOrderly-after m.instance m.cut m.state event run.0 o)
    (step_within budget m event o run.0 run.1 within) run.2

none_at_first : (budget : ℕ) → count_of opening ≤ budget
none_at_first budget = let none : count_of opening ≡ 0 = refl in omega (arith, none)

-- so a run from the opening state never has more labels than the budget
pub within_budget : (budget : ℕ) (J : Orbit) (cut : ℕ) (t : Machine) → GoesCarefully budget (searched J cut opening) t → count_of t.state ≤ budget
within_budget budget J cut t run =
    run_within budget (searched J cut opening) run.0 t (IsOrderly-opening J cut) (none_at_first budget) run.1
