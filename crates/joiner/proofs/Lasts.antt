-- The last acquisition of a path, and the time that two last acquisitions leave.
use Rattle.std.proofs.Common.{◌≡◌, ℕ, ◌+◌, ◌<◌, ◌≤◌, List, [], ◌∷◌, ◌++◌, length, reverse, sym, ◌∙◌, ap, subst, arith}
use Rattle.std.specs.Prelude.{⊤}
use Rattle.std.proofs.lemmas.Grind.{reverse_onto}
use Rattle.std.proofs.lemmas.List.{reverse-reverse}
use Rattle.joiner.specs.Halves.{LeaveTime}
use Rattle.strip_model.proofs.Meeting.{LeavesRoom, LeavesRoom-fits}
use Rattle.strip_model.proofs.Mirrored.{Mirrors}
use Rattle.strip_model.proofs.Words.{StripsExist-reverse}
use Rattle.strip_model.specs.Directed.{strip_of}
use Rattle.strip_model.specs.Horizon.{horizon_of}
use Rattle.strip_model.specs.Orbit.{Orbit, early_at, late_at, duration_at, manoeuvre_at}
use Rattle.strip_model.specs.Plan.{StripsExist}
use Rattle.strip_model.specs.Starts.{Place, Root, After, arrive, Fits, place_after}

-- what holds of where a path has come to: its last directed strip is of a strip that exists, and starts within its window
abbrev pub IsLast : Orbit → Place → Type 0
IsLast J Root = ⊤
IsLast J (After s x) = (strip_of x < length J.strips) × (s ≤ late_at J x)

pub IsLast-from : (J : Orbit) (q : Place) (xs : List ℕ) → IsLast J q → StripsExist J xs → Fits J q xs → IsLast J (place_after J q xs)
IsLast-from J q [] h exist fits = h
IsLast-from J q (y ∷ ys) h exist fits = IsLast-from J (After (arrive J q y) y) ys (exist.0, fits.0) exist.1 fits.1

-- a place that leaves time for a mirrored one leaves room for it
pub LeavesRoom-from_time : (J K : Orbit) → Mirrors (horizon_of J) J K → (q p : Place) → IsLast K p → LeaveTime J q p
    → LeavesRoom (horizon_of J) J q p
LeavesRoom-from_time J K m q Root h time = tt
LeavesRoom-from_time J K m Root (After t y) h time =
    let l = subst (λ (n : ℕ). strip_of y < n) m.same_size h.0 in
    (l, room (horizon_of J) t (late_at K y) (early_at J y) (duration_at J y) h.1 (m.late_is y l))
  where
    room : (M t l e d : ℕ) → t ≤ l → l + e + d ≡ M → 0 + t + d ≤ M
    room M t l e d within whole = omega arith
LeavesRoom-from_time J K m (After s x) (After t y) h time = (
  subst (λ (n : ℕ). strip_of y < n) m.same_size h.0,
  room (horizon_of J) s (duration_at J x) (manoeuvre_at J x y) t (duration_at J y) time,
)
  where
    room : (M s d n t f : ℕ) → s + d + n + f + t ≤ M → s + d + n + t + f ≤ M
    room M s d n t f h = omega arith

-- and the way back
pub LeaveTime-from_room : (J : Orbit) (q p : Place) → LeavesRoom (horizon_of J) J q p → LeaveTime J q p
LeaveTime-from_room J Root Root room = tt
LeaveTime-from_room J Root (After t y) room = tt
LeaveTime-from_room J (After s x) Root room = tt
LeaveTime-from_room J (After s x) (After t y) room =
    time (horizon_of J) s (duration_at J x) (manoeuvre_at J x y) t (duration_at J y) room.1
  where
    time : (M s d n t f : ℕ) → s + d + n + t + f ≤ M → s + d + n + f + t ≤ M
    time M s d n t f h = omega arith

LeaveTime-turned : (J K : Orbit) → Mirrors (horizon_of J) J K → (q : Place) (xs : List ℕ) → StripsExist J xs → Fits J q xs
    → LeaveTime J q (place_after K Root (reverse xs))
LeaveTime-turned J K m Root [] exist fits = tt
LeaveTime-turned J K m (After s x) [] exist fits = tt
LeaveTime-turned J K m q (y ∷ ys) exist fits =
    let M = horizon_of J in
    let split : reverse (y ∷ ys) ≡ reverse ys ++ y ∷ [] = reverse_onto ys y [] in
    let again : reverse (reverse ys ++ y ∷ []) ≡ y ∷ ys = ap (λ (b : List ℕ). reverse b) (sym split) ∙ reverse-reverse (y ∷ ys) in
    let room = LeavesRoom-fits M J K m q (reverse ys) y (StripsExist-reverse J ys exist.1) exist.0
    (subst (λ (b : List ℕ). Fits J q b) (sym again) fits) in
    subst (λ (b : List ℕ). LeaveTime J q (place_after K Root b)) (sym split)
    (LeaveTime-from_room J q (place_after K Root (reverse ys ++ y ∷ [])) room)

-- a place behind which a mirrored list fits, turned round, leaves time for what that list has come to
pub LeaveTime-fits : (J K : Orbit) → Mirrors (horizon_of J) J K → (q : Place) (b : List ℕ) → StripsExist J b → Fits J q (reverse b)
    → LeaveTime J q (place_after K Root b)
LeaveTime-fits J K m q b exist fits =
    subst (λ (xs : List ℕ). LeaveTime J q (place_after K Root xs)) (reverse-reverse b)
    (LeaveTime-turned J K m q (reverse b) (StripsExist-reverse J b exist) fits)
