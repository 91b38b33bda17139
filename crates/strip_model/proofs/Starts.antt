-- Earliest starts: they make a plan, and no plan of the same order starts an acquisition sooner.
use Rattle.std.proofs.Common.{◌≡◌, ℕ, ◌+◌, ◌≤◌, max, List, [], ◌∷◌, ◌++◌, refl, sym, ap, subst, le_trans, arith}
use Rattle.std.specs.List.{AllByRecursion}
use Rattle.std.specs.Prelude.{⊤}
use Rattle.strip_model.specs.Dominance.{IsNoLater}
use Rattle.strip_model.specs.Gain.{gain_in}
use Rattle.strip_model.specs.Orbit.{Orbit, early_at, late_at, duration_at, manoeuvre_at}
use Rattle.strip_model.specs.Plan.{order_of, IsInWindow, KeepsManoeuvres, StripsExist, StripsDistinct, KeepsTwinsTogether, Feasible, gain_of}
use Rattle.strip_model.specs.Starts.{Place, Root, After, ready, arrive, earliest, Fits, place_after, HasEarliestStarts, StartsNoLater}
use Rattle.strip_model.specs.declared.acquisition.Acquisition.{Acquisition}

-- the list is the order of its earliest starts
pub order_of-earliest : (J : Orbit) (q : Place) (xs : List ℕ) → order_of (earliest J q xs) ≡ xs
order_of-earliest J q [] = refl
order_of-earliest J q (y ∷ ys) = ap (λ (rest : List ℕ). y ∷ rest) (order_of-earliest J (After (arrive J q y) y) ys)

-- earliest starts leave each manoeuvre its time
pub KeepsManoeuvres-earliest : (J : Orbit) (q : Place) (xs : List ℕ) → KeepsManoeuvres J (earliest J q xs)
KeepsManoeuvres-earliest J q [] = tt
KeepsManoeuvres-earliest J q (y ∷ []) = tt
KeepsManoeuvres-earliest J q (y ∷ z ∷ ys) =
    (max_right (early_at J z) (ready J (After (arrive J q y) y) z), KeepsManoeuvres-earliest J (After (arrive J q y) y) (z ∷ ys))
  where
    max_right : (a b : ℕ) → b ≤ max a b
    max_right a b = omega arith

-- a list that fits starts in its windows
pub IsInWindow-earliest : (J : Orbit) (q : Place) (xs : List ℕ) → Fits J q xs → AllByRecursion (IsInWindow J) (earliest J q xs)
IsInWindow-earliest J q [] fits = tt
IsInWindow-earliest J q (y ∷ ys) fits =
    ((max_left (early_at J y) (ready J q y), fits.0), IsInWindow-earliest J (After (arrive J q y) y) ys fits.1)
  where
    max_left : (a b : ℕ) → a ≤ max a b
    max_left a b = omega arith

-- earliest starts of joined lists: the second goes on from where the first has come to
pub earliest-append : (J : Orbit) (q : Place) (xs ys : List ℕ) → earliest J q (xs ++ ys) ≡ earliest J q xs ++ earliest J (place_after J q xs) ys
earliest-append J q [] ys = refl
earliest-append J q (x ∷ xs) ys =
    ap (λ (rest : List Acquisition). let a : Acquisition = record { start = arrive J q x; at = x } in a ∷ rest) (earliest-append J (After (arrive J q x) x) xs ys)

-- where joined lists have come to
pub place_after-append : (J : Orbit) (q : Place) (xs ys : List ℕ) → place_after J q (xs ++ ys) ≡ place_after J (place_after J q xs) ys
place_after-append J q [] ys = refl
place_after-append J q (x ∷ xs) ys = place_after-append J (After (arrive J q x) x) xs ys

-- joined lists fit if the first does, and the second does from where the first has come to
pub Fits-append : (J : Orbit) (q : Place) (xs ys : List ℕ) → Fits J q xs → Fits J (place_after J q xs) ys → Fits J q (xs ++ ys)
Fits-append J q [] ys fx fy = fy
Fits-append J q (x ∷ xs) ys fx fy = (fx.0, Fits-append J (After (arrive J q x) x) xs ys fx.1 fy)

-- if joined lists fit, the first does, and the second does from where the first has come to
pub Fits-append_parts : (J : Orbit) (q : Place) (xs ys : List ℕ) → Fits J q (xs ++ ys) → Fits J q xs × Fits J (place_after J q xs) ys
Fits-append_parts J q [] ys fits = (tt, fits)
Fits-append_parts J q (x ∷ xs) ys fits =
    let rest = Fits-append_parts J (After (arrive J q x) x) xs ys fits.1 in
    ((fits.0, rest.0), rest.1)

-- earliest starts of a list with one more
pub earliest_push : (J : Orbit) (q : Place) (xs : List ℕ) (y : ℕ)
    → earliest J q (xs ++ y ∷ []) ≡ earliest J q xs ++ record { start = arrive J (place_after J q xs) y; at = y } ∷ []
earliest_push J q xs y = earliest-append J q xs (y ∷ [])

-- a list with one more has come to the start of that one
pub place_after_push : (J : Orbit) (q : Place) (xs : List ℕ) (y : ℕ) → place_after J q (xs ++ y ∷ []) ≡ After (arrive J (place_after J q xs) y) y
place_after_push J q xs y = place_after-append J q xs (y ∷ [])

-- a list that fits still does with one more that can begin before its window's late end
pub Fits-push : (J : Orbit) (q : Place) (xs : List ℕ) (y : ℕ) → Fits J q xs → arrive J (place_after J q xs) y ≤ late_at J y → Fits J q (xs ++ y ∷ [])
Fits-push J q xs y fits h = Fits-append J q xs (y ∷ []) fits (h, tt)

-- if a list with one more fits, the list does, and that one can begin before its window's late end
pub Fits-push_parts : (J : Orbit) (q : Place) (xs : List ℕ) (y : ℕ) → Fits J q (xs ++ y ∷ []) → Fits J q xs × (arrive J (place_after J q xs) y ≤ late_at J y)
Fits-push_parts J q xs y fits =
    let parts = Fits-append_parts J q xs (y ∷ []) fits in
    (parts.0, parts.1.0)

-- the plan's first start is no sooner than the satellite is ready from the place
abbrev pub BeginsAfter : Orbit → Place → List Acquisition → Type 0
BeginsAfter J q [] = ⊤
BeginsAfter J q (a ∷ plan) = ready J q a.at ≤ a.start

-- what a plan begins after it also begins after if that is sooner
BeginsAfter-sooner : (J : Orbit) (s t x : ℕ) (plan : List Acquisition) → s ≤ t → BeginsAfter J (After t x) plan → BeginsAfter J (After s x) plan
BeginsAfter-sooner J s t x [] sooner h = tt
BeginsAfter-sooner J s t x (a ∷ plan) sooner h = sums s t a.start (duration_at J x) (manoeuvre_at J x a.at) sooner h
  where
    sums : (s t u d m : ℕ) → s ≤ t → t + d + m ≤ u → s + d + m ≤ u
    sums s t u d m sooner h = omega arith

-- any plan begins after the root
pub BeginsAfter-root : (J : Orbit) (plan : List Acquisition) → BeginsAfter J Root plan
BeginsAfter-root J [] = tt
BeginsAfter-root J (a ∷ plan) = omega arith

-- what follows the first acquisition of a plan that keeps its manoeuvres begins after it, and keeps them
pub KeepsManoeuvres-rest : (J : Orbit) (a : Acquisition) (plan : List Acquisition) → KeepsManoeuvres J (a ∷ plan)
    → BeginsAfter J (After a.start a.at) plan × KeepsManoeuvres J plan
KeepsManoeuvres-rest J a [] h = (tt, tt)
KeepsManoeuvres-rest J a (b ∷ plan) h = h

arrive_within : (J : Orbit) (q : Place) (y s : ℕ) → early_at J y ≤ s → ready J q y ≤ s → arrive J q y ≤ s
arrive_within J q y s = both (early_at J y) (ready J q y) s
  where
    both : (a b s : ℕ) → a ≤ s → b ≤ s → max a b ≤ s
    both a b s h k = omega arith

-- a plan that begins after the place starts no acquisition sooner than the earliest starts from there do
pub StartsNoLater-earliest_from : (J : Orbit) (q : Place) (plan : List Acquisition) → BeginsAfter J q plan
    → AllByRecursion (IsInWindow J) plan → KeepsManoeuvres J plan → StartsNoLater (earliest J q (order_of plan)) plan
StartsNoLater-earliest_from J q [] begins windows manoeuvres = tt
StartsNoLater-earliest_from J q (a ∷ plan) begins windows manoeuvres =
    let sooner = arrive_within J q a.at a.start windows.0.0 begins in
    let rest = KeepsManoeuvres-rest J a plan manoeuvres in (
      sooner,
      StartsNoLater-earliest_from J (After (arrive J q a.at) a.at) plan
          (BeginsAfter-sooner J (arrive J q a.at) a.start a.at plan sooner rest.0) windows.1 rest.1,
    )

-- the order of a plan in its windows that begins after the place fits from there
pub Fits-order_of_from : (J : Orbit) (q : Place) (plan : List Acquisition) → BeginsAfter J q plan
    → AllByRecursion (IsInWindow J) plan → KeepsManoeuvres J plan → Fits J q (order_of plan)
Fits-order_of_from J q [] begins windows manoeuvres = tt
Fits-order_of_from J q (a ∷ plan) begins windows manoeuvres =
    let sooner = arrive_within J q a.at a.start windows.0.0 begins in
    let rest = KeepsManoeuvres-rest J a plan manoeuvres in (
      le_trans sooner windows.0.1,
      Fits-order_of_from J (After (arrive J q a.at) a.at) plan
          (BeginsAfter-sooner J (arrive J q a.at) a.start a.at plan sooner rest.0) windows.1 rest.1,
    )

-- earliest starts are pointwise least: no plan of the same order starts an acquisition sooner
pub StartsNoLater-earliest : (J : Orbit) (plan : List Acquisition)
    → AllByRecursion (IsInWindow J) plan → KeepsManoeuvres J plan → StartsNoLater (earliest J Root (order_of plan)) plan
StartsNoLater-earliest J plan = StartsNoLater-earliest_from J Root plan (BeginsAfter-root J plan)

-- the order of a plan in its windows that keeps its manoeuvres fits
pub Fits-order_of : (J : Orbit) (plan : List Acquisition)
    → AllByRecursion (IsInWindow J) plan → KeepsManoeuvres J plan → Fits J Root (order_of plan)
Fits-order_of J plan = Fits-order_of_from J Root plan (BeginsAfter-root J plan)

-- a feasible plan's order fits
pub Fits-from_Feasible : (J : Orbit) (plan : List Acquisition) → Feasible J plan → Fits J Root (order_of plan)
Fits-from_Feasible J plan h = Fits-order_of J plan h.windows h.manoeuvres

-- a list of distinct strips that fits and keeps twins together is a feasible plan at earliest starts
pub Feasible-earliest : (J : Orbit) (xs : List ℕ) → StripsExist J xs → StripsDistinct xs → Fits J Root xs → KeepsTwinsTogether J xs
    → Feasible J (earliest J Root xs)
Feasible-earliest J xs exist distinct fits twins =
    let back = sym (order_of-earliest J Root xs) in
    record {
      exist = subst (λ (ys : List ℕ). StripsExist J ys) back exist;
      distinct = subst (λ (ys : List ℕ). StripsDistinct ys) back distinct;
      windows = IsInWindow-earliest J Root xs fits;
      manoeuvres = KeepsManoeuvres-earliest J Root xs;
      twins = subst (λ (ys : List ℕ). KeepsTwinsTogether J ys) back twins;
    }

-- a list at earliest starts has earliest starts
pub HasEarliestStarts-earliest : (J : Orbit) (xs : List ℕ) → HasEarliestStarts J (earliest J Root xs)
HasEarliestStarts-earliest J xs = ap (λ (ys : List ℕ). earliest J Root ys) (sym (order_of-earliest J Root xs))

-- the gain of a list at earliest starts is that of the list
pub gain_of-earliest : (J : Orbit) (xs : List ℕ) → gain_of J (earliest J Root xs) ≡ gain_in J xs
gain_of-earliest J xs = ap (λ (ys : List ℕ). gain_in J ys) (order_of-earliest J Root xs)

-- a place from which the satellite is ready no later lets each acquisition begin no later
pub arrive_sooner : (J : Orbit) (p q : Place) (y : ℕ) → ready J p y ≤ ready J q y → arrive J p y ≤ arrive J q y
arrive_sooner J p q y = greater (early_at J y) (ready J p y) (ready J q y)
  where
    greater : (e a b : ℕ) → a ≤ b → max e a ≤ max e b
    greater e a b h = omega arith

-- after a sooner start of the same directed strip the satellite is ready sooner
pub ready_sooner : (J : Orbit) (s t x y : ℕ) → s ≤ t → ready J (After s x) y ≤ ready J (After t x) y
ready_sooner J s t x y = sums s t (duration_at J x) (manoeuvre_at J x y)
  where
    sums : (s t d m : ℕ) → s ≤ t → s + d + m ≤ t + d + m
    sums s t d m h = omega arith

-- what fits from a place fits from one from which the satellite is ready no later
pub Fits-sooner : (J : Orbit) (p q : Place) (ys : List ℕ) → ((y : ℕ) → ready J p y ≤ ready J q y) → Fits J q ys → Fits J p ys
Fits-sooner J p q [] h fits = tt
Fits-sooner J p q (y ∷ ys) h fits =
    let sooner = arrive_sooner J p q y (h y) in (
      le_trans sooner fits.0,
      Fits-sooner J (After (arrive J p y) y) (After (arrive J q y) y) ys (λ z. ready_sooner J (arrive J p y) (arrive J q y) y z sooner) fits.1,
    )

-- earliest starts are no later from a place from which the satellite is ready no later
pub StartsNoLater-sooner : (J : Orbit) (p q : Place) (ys : List ℕ) → ((y : ℕ) → ready J p y ≤ ready J q y) → StartsNoLater (earliest J p ys) (earliest J q ys)
StartsNoLater-sooner J p q [] h = tt
StartsNoLater-sooner J p q (y ∷ ys) h =
    let sooner = arrive_sooner J p q y (h y) in (
      sooner,
      StartsNoLater-sooner J (After (arrive J p y) y) (After (arrive J q y) y) ys (λ z. ready_sooner J (arrive J p y) (arrive J q y) y z sooner),
    )

-- what fits from a place fits from one after no later a start of the same directed strip
pub Fits-no_later : (J : Orbit) (p q : Place) (ys : List ℕ) → IsNoLater p q → Fits J q ys → Fits J p ys
Fits-no_later J Root q ys h fits = absurd h
Fits-no_later J (After s x) Root ys h fits = absurd h
Fits-no_later J (After s x) (After t y) ys h fits =
    Fits-sooner J (After s x) (After t y) ys
    (λ z. rw h.0 (ready_sooner J s t y z h.1)) fits
