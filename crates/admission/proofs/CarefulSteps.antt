-- Careful runs, step by step and one after another.
use Rattle.std.proofs.Common.{◌≡◌, ℕ, List, [], ◌∷◌, ◌++◌, refl, sym, ap, subst}
use Rattle.bucket.specs.declared.id.Id.{Id}
use Rattle.admission.specs.CarefulRuns.{TakesCare, InsertsWithCare, IsCarefulRun, GoesCarefully, GoesQuietly}
use Rattle.label_core.proofs.ClosedRuns.{IsOrderly-opening, IsOrderly-run}
use Rattle.label_core.proofs.Orderly.{IsOrderly}
use Rattle.label_core.specs.CoreState.{CoreState, opening}
use Rattle.label_core.specs.Events.{Event, InsertLabel, TakeLabel, RetireLabel, CutLabel, Publish, IsRun, after}
use Rattle.label_core.specs.Machine.{Machine, Can, stepped, IsReached}
use Rattle.strip_model.specs.Orbit.{Orbit}
use Rattle.strip_model.specs.declared.acquisition.Acquisition.{Acquisition}
use Rattle.strip_model.specs.declared.end.End.{End}

-- ---- one run after another

IsCarefulRun-append : (n : ℕ) (m : Machine) (vs ws : List Event) (t u : Machine) → IsCarefulRun n m vs t → IsCarefulRun n t ws u
    → IsCarefulRun n m (vs ++ ws) u
IsCarefulRun-append n m [] ws t u h k = subst (λ (x : Machine). IsCarefulRun n x ws u) (sym h) k
IsCarefulRun-append n m (v ∷ vs) ws t u h k = (h.0, h.1, IsCarefulRun-append n (stepped m v) vs ws t u h.2 k)

pub GoesCarefully-refl : (n : ℕ) (m : Machine) → GoesCarefully n m m
GoesCarefully-refl n m = ([], refl)

pub GoesCarefully-trans : (n : ℕ) (m t u : Machine) → GoesCarefully n m t → GoesCarefully n t u → GoesCarefully n m u
GoesCarefully-trans n m t u h k = (h.0 ++ k.0, IsCarefulRun-append n m h.0 k.0 t u h.1 k.1)

-- one step that takes care
pub GoesCarefully-step : (n : ℕ) (m t : Machine) (v : Event) → Can m v → TakesCare n m v → t ≡ stepped m v → GoesCarefully n m t
GoesCarefully-step n m t v can care is = (v ∷ [], (can, care, sym is))

-- and after a careful run
pub GoesCarefully-push : (n : ℕ) (m t u : Machine) (v : Event) → GoesCarefully n m t → Can t v → TakesCare n t v → u ≡ stepped t v
    → GoesCarefully n m u
GoesCarefully-push n m t u v h can care is = GoesCarefully-trans n m t u h (GoesCarefully-step n t u v can care is)

-- an insertion with care, and then what inserts nothing
pub GoesCarefully-inserted : (n : ℕ) (m t u : Machine) (e : End) (path : List ℕ) → Can m (InsertLabel e path) → InsertsWithCare n m e path
    → t ≡ stepped m (InsertLabel e path) → GoesQuietly t u → GoesCarefully n m u
GoesCarefully-inserted n m t u e path can care is quiet =
    GoesCarefully-trans n m t u (GoesCarefully-step n m t (InsertLabel e path) can care is) (quiet n)

-- ---- what inserts nothing

pub GoesQuietly-refl : (m : Machine) → GoesQuietly m m
GoesQuietly-refl m n = GoesCarefully-refl n m

pub GoesQuietly-trans : (m t u : Machine) → GoesQuietly m t → GoesQuietly t u → GoesQuietly m u
GoesQuietly-trans m t u h k n = GoesCarefully-trans n m t u (h n) (k n)

pub GoesQuietly-take : (m t : Machine) (id : Id) → Can m (TakeLabel id) → t ≡ stepped m (TakeLabel id) → GoesQuietly m t
GoesQuietly-take m t id can is n = GoesCarefully-step n m t (TakeLabel id) can tt is

pub GoesQuietly-retire : (m t : Machine) (id by : Id) → Can m (RetireLabel id by) → t ≡ stepped m (RetireLabel id by) → GoesQuietly m t
GoesQuietly-retire m t id by can is n = GoesCarefully-step n m t (RetireLabel id by) can tt is

pub GoesQuietly-cut : (m t : Machine) (id : Id) → Can m (CutLabel id) → t ≡ stepped m (CutLabel id) → GoesQuietly m t
GoesQuietly-cut m t id can is n = GoesCarefully-step n m t (CutLabel id) can tt is

pub GoesQuietly-publish : (m t : Machine) (plan : List Acquisition) → Can m (Publish plan) → t ≡ stepped m (Publish plan) → GoesQuietly m t
GoesQuietly-publish m t plan can is n = GoesCarefully-step n m t (Publish plan) can tt is

-- ---- careful runs are legal

pub IsRun-careful : (n : ℕ) (m : Machine) (vs : List Event) (t : Machine) → IsCarefulRun n m vs t → IsRun m.instance m.cut m.state vs t.state
IsRun-careful n m [] t h = ap (λ (x : Machine). x.state) h
IsRun-careful n m (v ∷ vs) t h = (h.0, IsRun-careful n (stepped m v) vs t h.2)

pub instance-careful : (n : ℕ) (m : Machine) (vs : List Event) (t : Machine) → IsCarefulRun n m vs t → t.instance ≡ m.instance
instance-careful n m [] t h = sym (ap (λ (x : Machine). x.instance) h)
instance-careful n m (v ∷ vs) t h = instance-careful n (stepped m v) vs t h.2

pub cut-careful : (n : ℕ) (m : Machine) (vs : List Event) (t : Machine) → IsCarefulRun n m vs t → t.cut ≡ m.cut
cut-careful n m [] t h = sym (ap (λ (x : Machine). x.cut) h)
cut-careful n m (v ∷ vs) t h = cut-careful n (stepped m v) vs t h.2

IsRun-append : (I : Orbit) (H : ℕ) (s : CoreState) (vs ws : List Event) (t u : CoreState) → IsRun I H s vs t → IsRun I H t ws u
    → IsRun I H s (vs ++ ws) u
IsRun-append I H s [] ws t u h k = subst (λ (x : CoreState). IsRun I H x ws u) (sym h) k
IsRun-append I H s (v ∷ vs) ws t u h k = (h.0, IsRun-append I H (after I s v) vs ws t u h.1 k)

-- what a careful run reaches from a reached state is reached
pub IsReached-careful : (n : ℕ) (m t : Machine) → IsReached m → GoesCarefully n m t → IsReached t
IsReached-careful n m t reached goes =
    let run : IsRun m.instance m.cut opening (reached.0 ++ goes.0) t.state =
    IsRun-append m.instance m.cut opening reached.0 goes.0 m.state t.state reached.1 (IsRun-careful n m goes.0 t goes.1) in
    let same : IsRun t.instance m.cut opening (reached.0 ++ goes.0) t.state =
    subst (λ (I : Orbit). IsRun I m.cut opening (reached.0 ++ goes.0) t.state) (sym (instance-careful n m goes.0 t goes.1)) run in (
      reached.0 ++ goes.0,
      subst (λ (H : ℕ). IsRun t.instance H opening (reached.0 ++ goes.0) t.state) (sym (cut-careful n m goes.0 t goes.1)) same,
    )

-- ---- reached states

-- what is true of every reached state
pub IsOrderly-reached : (m : Machine) → IsReached m → IsOrderly m.instance m.cut m.state
IsOrderly-reached m reached = IsOrderly-run m.instance m.cut opening reached.0 m.state reached.1 (IsOrderly-opening m.instance m.cut)
