-- What stands at a place of a plan.
use Rattle.std.proofs.Common.{◌≡◌, ℕ, zero, suc, ◌+◌, ◌<◌, ◌≤◌, ◌==◌, true, List, [], ◌∷◌, ◌++◌, length, take, drop, get_or, refl, sym, ◌∙◌, ap, inl, inr, arith, true≢false}
use Rattle.std.proofs.lemmas.Bool.{or_cases, or_left, or_right, eqb-true, eq-eqb}
use Rattle.std.proofs.lemmas.List.{take_more, drop_more, take-append-drop}
use Rattle.std.specs.List.{AllByRecursion}
use Rattle.plan_check.specs.Fault.{no_acquisition, acquisition_at}
use Rattle.strip_model.proofs.Words.{order_of-append}
use Rattle.strip_model.specs.Directed.{has}
use Rattle.strip_model.specs.Orbit.{Orbit, duration_at, manoeuvre_at}
use Rattle.strip_model.specs.Plan.{order_of, KeepsManoeuvres}
use Rattle.strip_model.specs.declared.acquisition.Acquisition.{Acquisition}

-- the order of a plan up to a place, and with the acquisition there
pub order_of-take_more : (plan : List Acquisition) (k : ℕ) → k < length plan
    → order_of (take (k + 1) plan) ≡ order_of (take k plan) ++ (acquisition_at plan k).at ∷ []
order_of-take_more plan k l =
    ap (λ (front : List Acquisition). order_of front) (take_more plan k no_acquisition l)
    ∙ order_of-append (take k plan) (acquisition_at plan k ∷ [])

-- the order of a plan round a place
pub order_of-around : (plan : List Acquisition) (k : ℕ) → k < length plan
    → order_of plan ≡ order_of (take k plan) ++ (acquisition_at plan k).at ∷ order_of (drop (k + 1) plan)
order_of-around plan k l =
    ap (λ (all : List Acquisition). order_of all) (sym (take-append-drop k plan))
    ∙ order_of-append (take k plan) (drop k plan)
    ∙ ap (λ (rest : List Acquisition). order_of (take k plan) ++ order_of rest) (drop_more plan k no_acquisition l)

-- the directed strip at a place stands in the order
pub has-place : (plan : List Acquisition) (k : ℕ) → k < length plan → has (acquisition_at plan k).at (order_of plan) ≡ true
has-place [] k l = absurd (omega arith)
has-place (a ∷ plan) zero l = or_left (a.at == a.at) (has a.at (order_of plan)) (eq-eqb a.at a.at refl)
has-place (a ∷ plan) (suc k) l =
    let x = (acquisition_at plan k).at in
    or_right (a.at == x) (has x (order_of plan)) (has-place plan k (omega arith))

-- a directed strip that stands in the order does so at some place
pub place-has : (plan : List Acquisition) (x : ℕ) → has x (order_of plan) ≡ true → (k : ℕ) × (k < length plan) × ((acquisition_at plan k).at ≡ x)
place-has [] x h = absurd (true≢false (sym h))
place-has (a ∷ plan) x h =
    elim (or_cases (a.at == x) (has x (order_of plan)) h) [
      | inl e ↦ (0, omega arith, eqb-true a.at x e)
      | inr t ↦ let found = place-has plan x t in (suc found.0, omega (arith, found.1), found.2)
    ]

-- what holds at each place holds of each acquisition
pub all_from_places : {X : Type 0} (P : X → Type 0) (xs : List X) (d : X) → ((k : ℕ) → k < length xs → P (get_or xs k d)) → AllByRecursion P xs
all_from_places P [] d h = tt
all_from_places P (x ∷ xs) d h = (h 0 (omega arith), all_from_places P xs d (λ k l. h (suc k) (omega arith)))

-- the acquisition after place k starts when the one there is over and the satellite has turned
abbrev pub TurnsInTime : Orbit → List Acquisition → ℕ → Type 0
TurnsInTime J plan k =
    let before = acquisition_at plan k in
    let after = acquisition_at plan (suc k) in
    before.start + duration_at J before.at + manoeuvre_at J before.at after.at ≤ after.start

pub manoeuvres_from_places : (J : Orbit) (plan : List Acquisition) → ((k : ℕ) → suc k < length plan → TurnsInTime J plan k) → KeepsManoeuvres J plan
manoeuvres_from_places J [] h = tt
manoeuvres_from_places J (a ∷ []) h = tt
manoeuvres_from_places J (a ∷ b ∷ plan) h = (h 0 (omega arith), manoeuvres_from_places J (b ∷ plan) (λ k l. h (suc k) (omega arith)))

pub place_from_manoeuvres : (J : Orbit) (plan : List Acquisition) (k : ℕ) → KeepsManoeuvres J plan → suc k < length plan → TurnsInTime J plan k
place_from_manoeuvres J [] k h l = absurd (omega arith)
place_from_manoeuvres J (a ∷ []) k h l = absurd (omega arith)
place_from_manoeuvres J (a ∷ b ∷ plan) zero h l = h.0
place_from_manoeuvres J (a ∷ b ∷ plan) (suc k) h l = place_from_manoeuvres J (b ∷ plan) k h.1 (omega arith)
