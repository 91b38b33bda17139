-- What is there stays there along a run, and what a run inserts is there at its end.
use Rattle.std.proofs.Common.{◌≡◌, ◌⊎◌, ℕ, ◌<◌, ◌≤◌, List, [], ◌∷◌, length, refl, sym, ◌∙◌, ap, subst, inl, inr, arith}
use Rattle.bucket.specs.Histories.{bucket_of}
use Rattle.label_list.specs.Labels.{Held}
use Rattle.bucket.specs.declared.id.Id.{Id}
use Rattle.label_list.specs.declared.state.State.{State}
use Rattle.label_list.specs.declared.state.State.TheVariants.{Waiting, Taken, Retired, Cut}
use Rattle.label_core.proofs.Lookups.{next_id, held_new, held_old, there_new, there_old}
use Rattle.label_core.proofs.Orderly.{IsOrderly, Grows}
use Rattle.label_core.proofs.Steps.{Grows-alike, IsAlike-same, IsAlike-trans, IsAlike-with_state, buckets-with_incumbent, buckets-with_note, IsOrderly-after}
use Rattle.label_core.specs.CoreState.{CoreState, buckets_of, IsThere, IsListed, with_state, with_note}
use Rattle.label_core.specs.declared.note.Note.{Note}
use Rattle.label_core.specs.declared.note.Note.TheVariants.{Retires, Cuts}
use Rattle.label_core.specs.Events.{Event, InsertLabel, TakeLabel, RetireLabel, CutLabel, Publish, JoinLabels, CanStep, IsRun, after}
use Rattle.strip_model.specs.Orbit.{Orbit}
use Rattle.strip_model.specs.Plan.{gain_of}
use Rattle.strip_model.specs.declared.acquisition.Acquisition.{Acquisition}
use Rattle.strip_model.specs.declared.end.End.{End}

-- ---- one step

inserted_below : (I : Orbit) (H : ℕ) (s : CoreState) (e : End) (path : List ℕ) → IsOrderly I H s → bucket_of path < length (buckets_of s e)
inserted_below I H s e path o = omega (arith, o.size e)

grows_plan : (I : Orbit) (s : CoreState) (plan : List Acquisition) → gain_of I s.incumbent ≤ gain_of I plan → Grows I s (record s { incumbent = plan })
grows_plan I s plan gains =
    Grows-alike s (record s { incumbent = plan }) (IsAlike-same s (record s { incumbent = plan }) (buckets-with_incumbent s plan)) I gains

grows_marked : (I : Orbit) (s : CoreState) (id : Id) (state : State) (note : Note) → IsThere s id → Grows I s (with_note (with_state s id state) note)
grows_marked I s id state note there =
    let mid : CoreState = with_state s id state in
    let t : CoreState = with_note mid note in
    Grows-alike s t (IsAlike-trans s mid t (IsAlike-with_state s id state there) (IsAlike-same mid t (buckets-with_note mid note))) I (omega arith)

grows_step : (I : Orbit) (H : ℕ) (s : CoreState) (event : Event) → IsOrderly I H s → CanStep I H s event → Grows I s (after I s event)
grows_step I H s (InsertLabel e path) o can =
    let held : Held = record { path = path; state = Waiting } in
    let below = inserted_below I H s e path o in
    record {
      there = there_old s e (bucket_of path) held below;
      path = λ x there. ap (λ (h : Held). h.path) (held_old s e (bucket_of path) held below x there);
      gain = omega arith;
    }
grows_step I H s (TakeLabel id) o can = Grows-alike s (with_state s id Taken) (IsAlike-with_state s id Taken can.there) I (omega arith)
grows_step I H s (RetireLabel id by) o can = grows_marked I s id (Retired by.index) (Retires id by) can.live.there
grows_step I H s (CutLabel id) o can = grows_marked I s id Cut (Cuts id) can.live.there
grows_step I H s (Publish plan) o can = grows_plan I s plan can.gains
grows_step I H s (JoinLabels f b) o can = grows_plan I s _ can.gains

-- what is listed stays listed
pub listed_grows : (I : Orbit) (s t : CoreState) (e : End) (path : List ℕ) → Grows I s t → IsListed s e path → IsListed t e path
listed_grows I s t e path grows (id, side, there, is) = (id, side, grows.there id there, grows.path id there ∙ is)

grows_refl : (I : Orbit) (s : CoreState) → Grows I s s
grows_refl I s = record { there = λ id there. there; path = λ id there. refl; gain = omega arith }

grows_trans : (I : Orbit) (s t u : CoreState) → Grows I s t → Grows I t u → Grows I s u
grows_trans I s t u h k = record {
  there = λ id there. k.there id (h.there id there);
  path = λ id there. k.path id (h.there id there) ∙ h.path id there;
  gain = (let a = h.gain in let b = k.gain in omega arith);
}

-- ---- runs

-- along a run each label stays with its path, and the plan gains no less
pub grows_run : (I : Orbit) (H : ℕ) (s : CoreState) (events : List Event) (t : CoreState) → IsOrderly I H s → IsRun I H s events t → Grows I s t
grows_run I H s [] t o run = subst (λ (x : CoreState). Grows I s x) run (grows_refl I s)
grows_run I H s (event ∷ events) t o run =
    grows_trans I s (after I s event) t (grows_step I H s event o run.0)
    (grows_run I H (after I s event) events t (IsOrderly-after I H s event run.0 o) run.1)

-- the event is one of these
abbrev pub IsOneOf : Event → List Event → Type 0
IsOneOf event [] = ⊥
IsOneOf event (v ∷ events) = (v ≡ event) ⊎ IsOneOf event events

listed_new : (I : Orbit) (H : ℕ) (s : CoreState) (e : End) (path : List ℕ) → IsOrderly I H s → IsListed (after I s (InsertLabel e path)) e path
listed_new I H s e path o =
    let held : Held = record { path = path; state = Waiting } in
    let below = inserted_below I H s e path o in
    (next_id s e (bucket_of path), refl, there_new s e (bucket_of path) held below, ap (λ (h : Held). h.path) (held_new s e (bucket_of path) held below))

-- what a run inserts is listed at its end
pub inserted_listed : (I : Orbit) (H : ℕ) (s : CoreState) (events : List Event) (t : CoreState) (e : End) (path : List ℕ) → IsOrderly I H s
    → IsRun I H s events t → IsOneOf (InsertLabel e path) events → IsListed t e path
inserted_listed I H s [] t e path o run one = absurd one
inserted_listed I H s (event ∷ events) t e path o run (inl is) =
    let next : IsOrderly I H (after I s event) = IsOrderly-after I H s event run.0 o in
    let here : IsListed (after I s event) e path = subst (λ (v : Event). IsListed (after I s v) e path) (sym is) (listed_new I H s e path o) in
    listed_grows I (after I s event) t e path (grows_run I H (after I s event) events t next run.1) here
inserted_listed I H s (event ∷ events) t e path o run (inr later) =
    inserted_listed I H (after I s event) events t e path (IsOrderly-after I H s event run.0 o) run.1 later
