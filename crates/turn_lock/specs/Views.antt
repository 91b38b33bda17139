-- What a view says: its ticket, its turn, and the places of its parties.
use Rattle.std.specs.Prelude.{◌≡◌, ◌≤◌, ◌<◌, ◌==◌, ℕ, suc, List, [], ◌∷◌, sum_by, Some, slice_get, Bool, true, false}
use Rattle.turn_lock.specs.declared.view.View.{View}
use Rattle.turn_lock.specs.declared.view.Placed.{Placed}
use Rattle.turn_lock.specs.declared.view.Stage.{Stage}
use Rattle.turn_lock.specs.declared.view.Stage.TheVariants.{Idle, Waiting, Holding}

-- 1 where the test holds, else 0
abbrev pub one_if : Bool → ℕ
one_if true = 1
one_if false = 0

module _ {E : Type 0} where
  -- how many tickets it has, one or none
  abbrev pub tickets : Stage E → ℕ
  tickets Idle = 0
  tickets (Waiting k) = 1
  tickets (Holding k found) = 1

  -- how many tickets of this number it has
  abbrev pub tickets_of : ℕ → Stage E → ℕ
  tickets_of n Idle = 0
  tickets_of n (Waiting k) = one_if (k == n)
  tickets_of n (Holding k found) = one_if (k == n)

  -- how many turns it holds, one or none
  abbrev pub turns_held : Stage E → ℕ
  turns_held Idle = 0
  turns_held (Waiting k) = 0
  turns_held (Holding k found) = 1

  -- its ticket, if it has one, lies from `serving` on and before `next`
  abbrev pub IsInLine : (serving next : ℕ) → Stage E → Type 0
  IsInLine serving next Idle = Unit {0}
  IsInLine serving next (Waiting k) = (serving ≤ k) × (k < next)
  IsInLine serving next (Holding k found) = (serving ≤ k) × (k < next)

  -- where it holds the turn, its ticket is the one that is served, and it keeps the served history
  abbrev pub IsHolder : (serving : ℕ) → (served : List E) → Stage E → Type 0
  IsHolder serving served Idle = Unit {0}
  IsHolder serving served (Waiting k) = Unit {0}
  IsHolder serving served (Holding k found) = (k ≡ serving) × (found ≡ served)

  -- from `least` on the places rise, and the entries stand there in the history
  abbrev pub StandsFrom : (least : ℕ) → List E → List (Placed E) → Type 0
  StandsFrom least history [] = Unit {0}
  StandsFrom least history (p ∷ ps) = (least ≤ p.place) × (slice_get history p.place ≡ Some p.entry) × StandsFrom (suc p.place) history ps

  -- how often this place is one of these
  abbrev pub times : ℕ → List (Placed E) → ℕ
  times n party = sum_by (λ p. one_if (p.place == n)) party

  -- entries with their places, the first of which is n
  abbrev pub placed : ℕ → List E → List (Placed E)
  placed n [] = []
  placed n (x ∷ xs) = record { place = n; entry = x } ∷ placed (suc n) xs

module _ {E F : Type 0} where
  -- the parties of a view: its own places, and those of each pass that was joined into it
  abbrev pub placed_parties : View E F → List (List (Placed E))
  placed_parties v = v.own ∷ v.joined

  -- how often this place stands in a view
  abbrev pub times_in : ℕ → View E F → ℕ
  times_in n v = sum_by (times n) (placed_parties v)
