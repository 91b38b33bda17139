-- Earliest starts of a list of directed strips.
use Rattle.std.specs.Prelude.{◌≡◌, ℕ, ◌+◌, ◌≤◌, max, ⊤, List, [], ◌∷◌}
use Rattle.strip_model.specs.Orbit.{Orbit, early_at, late_at, duration_at, manoeuvre_at}
use Rattle.strip_model.specs.Plan.{order_of, StripsExist, StripsDistinct}
use Rattle.strip_model.specs.declared.acquisition.Acquisition.{Acquisition}

-- how far a sequence has come: it hasn't begun, or its last acquisition is of this directed strip and began then
pub data Place : Type 0 where
  Root : Place
  After : (start last : ℕ) → Place

-- when the satellite is ready to acquire y
abbrev pub ready : Orbit → Place → ℕ → ℕ
ready J Root y = 0
ready J (After s x) y = s + duration_at J x + manoeuvre_at J x y

-- when the acquisition of y can begin: not before its window, and not before the satellite is ready
abbrev pub arrive : Orbit → Place → ℕ → ℕ
arrive J q y = max (early_at J y) (ready J q y)

-- the list with earliest starts
abbrev pub earliest : Orbit → Place → List ℕ → List Acquisition
earliest J q [] = []
earliest J q (y ∷ ys) = record { start = arrive J q y; at = y } ∷ earliest J (After (arrive J q y) y) ys

-- earliest starts don't pass the windows' late ends
abbrev pub Fits : Orbit → Place → List ℕ → Type 0
Fits J q [] = ⊤
Fits J q (y ∷ ys) = (arrive J q y ≤ late_at J y) × Fits J (After (arrive J q y) y) ys

-- an order of strips that exist, each once, whose earliest starts are in time
pub record IsInTime (J : Orbit) (order : List ℕ) : Type 0 where
  pub exist : StripsExist J order
  pub distinct : StripsDistinct order
  pub fits : Fits J Root order

-- where the list has come to, at earliest starts
abbrev pub place_after : Orbit → Place → List ℕ → Place
place_after J q [] = q
place_after J q (y ∷ ys) = place_after J (After (arrive J q y) y) ys

-- where a plan has come to: its last acquisition
abbrev pub place_of : List Acquisition → Place
place_of [] = Root
place_of (a ∷ []) = After a.start a.at
place_of (a ∷ b ∷ plan) = place_of (b ∷ plan)

-- the plan's starts are the earliest of its order
abbrev pub HasEarliestStarts : Orbit → List Acquisition → Type 0
HasEarliestStarts J plan = plan ≡ earliest J Root (order_of plan)

-- acquisition by acquisition, the first plan starts no later than the second
abbrev pub StartsNoLater : List Acquisition → List Acquisition → Type 0
StartsNoLater [] [] = ⊤
StartsNoLater (a ∷ plan) (b ∷ other) = (a.start ≤ b.start) × StartsNoLater plan other
StartsNoLater _ _ = ⊥
