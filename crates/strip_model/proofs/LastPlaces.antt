-- The last acquisition of a plan, and where the plan has come to.
use Rattle.std.proofs.Common.{◌≡◌, ℕ, suc, ◌-◌, ◌<◌, List, [], ◌∷◌, length, refl, ◌∙◌, ap, arith, subst, Some, rules}
use Rattle.std.specs.List.{AllByRecursion, slice_get}
use Rattle.strip_model.specs.Directed.{strip_of}
use Rattle.strip_model.specs.Orbit.{Orbit}
use Rattle.strip_model.specs.Plan.{order_of}
use Rattle.strip_model.specs.Starts.{Place, arrive, earliest, place_after, place_of, HasEarliestStarts}
use Rattle.strip_model.specs.Starts.Place.{Root, After}
use Rattle.strip_model.specs.declared.acquisition.Acquisition.{Acquisition}

-- a is the last acquisition of the plan
abbrev pub IsLast : List Acquisition → Acquisition → Type 0
IsLast [] a = ⊥
IsLast (b ∷ []) a = b ≡ a
IsLast (b ∷ c ∷ plan) a = IsLast (c ∷ plan) a

-- the acquisition at the last place is the last
pub IsLast-get : (plan : List Acquisition) (a : Acquisition) → slice_get plan (length plan - 1) ≡ Some a → IsLast plan a
IsLast-get [] a e = absurd (cc)
IsLast-get (b ∷ []) a e = search rules
IsLast-get (b ∷ c ∷ plan) a e = IsLast-get (c ∷ plan) a (let n : length (b ∷ c ∷ plan) - 1 ≡ suc (length (c ∷ plan) - 1) = omega arith in rw n at e)

-- the plan has come to its last acquisition
pub place_of-last : (plan : List Acquisition) (a : Acquisition) → IsLast plan a → place_of plan ≡ After a.start a.at
place_of-last [] a e = elim e [ ]
place_of-last (b ∷ []) a e = ap (λ (a : Acquisition). After a.start a.at) e
place_of-last (b ∷ c ∷ plan) a e = place_of-last (c ∷ plan) a e

-- what holds of each acquisition holds of the last
pub last_holds : (P : Acquisition → Type 0) (plan : List Acquisition) (a : Acquisition) → AllByRecursion P plan → IsLast plan a → P a
last_holds P [] a h e = elim e [ ]
last_holds P (b ∷ []) a h e = subst P e h.0
last_holds P (b ∷ c ∷ plan) a h e = last_holds P (c ∷ plan) a h.1 e

-- the strip of the last exists if all do
pub last_exists : (n : ℕ) (plan : List Acquisition) (a : Acquisition) → AllByRecursion (λ x. strip_of x < n) (order_of plan) → IsLast plan a → strip_of a.at < n
last_exists n [] a h e = elim e [ ]
last_exists n (b ∷ []) a h e = let P : Acquisition → Type 0 = λ a. strip_of a.at < n in subst P e h.0
last_exists n (b ∷ c ∷ plan) a h e = last_exists n (c ∷ plan) a h.1 e

place_of-earliest_from : (J : Orbit) (q : Place) (x : ℕ) (xs : List ℕ) → place_of (earliest J q (x ∷ xs)) ≡ place_after J q (x ∷ xs)
place_of-earliest_from J q x [] = refl
place_of-earliest_from J q x (y ∷ ys) = place_of-earliest_from J (After (arrive J q x) x) y ys

-- a plan with earliest starts has come to where its order comes to
pub place_of-earliest : (J : Orbit) (xs : List ℕ) → place_of (earliest J Root xs) ≡ place_after J Root xs
place_of-earliest J [] = refl
place_of-earliest J (x ∷ xs) = place_of-earliest_from J Root x xs

-- a plan at earliest starts has come to where its order comes to
pub place_of-plan : (J : Orbit) (plan : List Acquisition) → HasEarliestStarts J plan → place_of plan ≡ place_after J Root (order_of plan)
place_of-plan J plan starts = ap (λ (p : List Acquisition). place_of p) starts ∙ place_of-earliest J (order_of plan)
