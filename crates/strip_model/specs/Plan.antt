-- Plans: lists of acquisitions in time order.
use Rattle.std.specs.Prelude.{◌≡◌, ℕ, ◌+◌, ◌<◌, ◌≤◌, ⊤, true, false, List, [], ◌∷◌, length, map, Some}
use Rattle.std.specs.List.{AllByRecursion}
use Rattle.strip_model.specs.Directed.{strip_of, has, has_strip}
use Rattle.strip_model.specs.Gain.{gain_in}
use Rattle.strip_model.specs.Orbit.{Orbit, early_at, late_at, duration_at, manoeuvre_at, partner_of}
use Rattle.strip_model.specs.declared.acquisition.Acquisition.{Acquisition}

-- the directed strips of a plan, in its order
abbrev pub order_of : List Acquisition → List ℕ
order_of plan = map (λ a. a.at) plan

-- each strip of the list exists
abbrev pub StripsExist : Orbit → List ℕ → Type 0
StripsExist J xs = AllByRecursion (λ x. strip_of x < length J.strips) xs

-- no strip stands twice in the list, in whichever direction
abbrev pub StripsDistinct : List ℕ → Type 0
StripsDistinct [] = ⊤
StripsDistinct (x ∷ xs) = (has_strip (strip_of x) xs ≡ false) × StripsDistinct xs

-- the start lies in the window of its directed strip, ends included
abbrev pub IsInWindow : Orbit → Acquisition → Type 0
IsInWindow J a = (early_at J a.at ≤ a.start) × (a.start ≤ late_at J a.at)

-- each acquisition but the first starts when the one before it is over and the satellite has turned
abbrev pub KeepsManoeuvres : Orbit → List Acquisition → Type 0
KeepsManoeuvres J [] = ⊤
KeepsManoeuvres J (a ∷ []) = ⊤
KeepsManoeuvres J (a ∷ b ∷ plan) =
    (a.start + duration_at J a.at + manoeuvre_at J a.at b.at ≤ b.start) × KeepsManoeuvres J (b ∷ plan)

-- Each directed strip of the list whose strip has a twin comes with that twin in the same direction. Since strips stand
-- once and twins are mutual, both of a pair are there or neither, and in one direction.
abbrev pub KeepsTwinsTogether : Orbit → List ℕ → Type 0
KeepsTwinsTogether J xs = (x y : ℕ) → has x xs ≡ true → partner_of J x ≡ Some y → has y xs ≡ true

-- A feasible plan: its strips exist and are distinct, each start lies in its window, each manoeuvre has its time, and
-- twins come together.
pub record Feasible (J : Orbit) (plan : List Acquisition) : Type 0 where
  pub exist : StripsExist J (order_of plan)
  pub distinct : StripsDistinct (order_of plan)
  pub windows : AllByRecursion (IsInWindow J) plan
  pub manoeuvres : KeepsManoeuvres J plan
  pub twins : KeepsTwinsTogether J (order_of plan)

-- the gain of a plan, in twentieths
abbrev pub gain_of : Orbit → List Acquisition → ℕ
gain_of J plan = gain_in J (order_of plan)
