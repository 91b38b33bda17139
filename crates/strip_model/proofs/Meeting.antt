-- Where a forward list and a mirrored one meet: the timing of both together, by their last starts alone.
use Rattle.std.proofs.Common.{◌≡◌, ℕ, ◌+◌, ◌<◌, ◌≤◌, max, List, [], ◌∷◌, ◌++◌, length, reverse, sym, subst, arith}
use Rattle.std.specs.Prelude.{⊤}
use Rattle.std.proofs.lemmas.Grind.{reverse_onto}
use Rattle.std.proofs.lemmas.List.{reverse-append, reverse-reverse}
use Rattle.strip_model.proofs.Mirrored.{Mirrors, Mirrors-back, StripsExist-mirror}
use Rattle.strip_model.proofs.Starts.{place_after_push, Fits-push}
use Rattle.strip_model.proofs.Words.{StripsExist-reverse}
use Rattle.strip_model.specs.Directed.{strip_of}
use Rattle.strip_model.specs.Orbit.{Orbit, early_at, late_at, duration_at, manoeuvre_at}
use Rattle.strip_model.specs.Plan.{StripsExist}
use Rattle.strip_model.specs.Starts.{Place, Root, After, ready, arrive, Fits, place_after}

-- From the front to y and from the end to y: what the mirror still fits leaves room for y, at its earliest start from both.
pub meet : (M : ℕ) (J K : Orbit) → Mirrors M J K → (q : Place) (y : ℕ) (rest : List ℕ)
    → strip_of y < length J.strips → StripsExist J rest → Fits K q (y ∷ rest)
    → arrive J (place_after J Root (reverse rest)) y + arrive K q y + duration_at J y ≤ M
meet M J K m q y [] l exist fits = alone (early_at J y) (arrive K q y) (late_at K y) (duration_at J y) M fits.0 (m.late_is y l)
  where
    alone : (e s t d M : ℕ) → s ≤ t → t + e + d ≡ M → max e 0 + s + d ≤ M
    alone e s t d M within mirrored = omega arith
meet M J K m q y (z ∷ rest) l exist fits =
    let s = arrive K q y in
    let before = place_after J Root (reverse rest) in
    let next = meet M J K m (After s y) z rest exist.0 exist.1 fits.1 in
    let place : place_after J Root (reverse (z ∷ rest)) ≡ After (arrive J before z) z =
    rw (reverse_onto rest z []) (place_after_push J Root (reverse rest) z) in
    subst (λ (p : Place). arrive J p y + s + duration_at J y ≤ M) (sym place)
    (both (early_at J y) s (late_at K y) (duration_at J y) (duration_at K y) (arrive J before z) (duration_at J z)
    (manoeuvre_at J z y) (manoeuvre_at K y z) (early_at K z) M
    fits.0 (m.late_is y l) (m.same_duration y l) (m.turned_manoeuvre y z l exist.0) next)
  where
    both : (e s t d f u g n k i M : ℕ) → s ≤ t → t + e + d ≡ M → f ≡ d → k ≡ n → u + max i (s + f + k) + g ≤ M
        → max e (u + g + n) + s + d ≤ M
    both e s t d f u g n k i M within mirrored same turned next = omega arith

-- A forward place leaves room for what a mirrored list has come to: when the satellite is ready for the mirrored list's last
-- directed strip, it can still be acquired by when the mirrored list acquires it.
abbrev pub LeavesRoom : ℕ → Orbit → Place → Place → Type 0
LeavesRoom M J q Root = ⊤
LeavesRoom M J q (After t y) = (strip_of y < length J.strips) × (ready J q y + t + duration_at J y ≤ M)

-- the place is of a strip that exists
abbrev IsOfStrip : Orbit → Place → Type 0
IsOfStrip J Root = ⊤
IsOfStrip J (After t x) = strip_of x < length J.strips

-- a mirrored list turned round behind q: it fits, and leaves room for where the mirrored list began
record FitsBehind (M : ℕ) (J : Orbit) (q p : Place) (b : List ℕ) : Type 0 where
  fits : Fits J q (reverse b)
  room : LeavesRoom M J (place_after J q (reverse b)) p

-- where the satellite is ready for y in time, it can begin in time, and as early as the mirror needs
record BeginsInTime (M : ℕ) (J : Orbit) (q : Place) (y s : ℕ) : Type 0 where
  in_time : arrive J q y ≤ late_at J y
  over : arrive J q y + s + duration_at J y ≤ M

begins_in_time : (M : ℕ) (J K : Orbit) → Mirrors M J K → (q p : Place) (y : ℕ) → strip_of y < length J.strips
    → arrive K p y ≤ late_at K y → ready J q y + arrive K p y + duration_at J y ≤ M → BeginsInTime M J q y (arrive K p y)
begins_in_time M J K m q p y l within room = record {
  in_time = late M (early_at J y) (late_at J y) (ready J q y) (early_at K y) (late_at K y) (ready K p y) (duration_at J y) (m.early_is y l) (m.late_is y l) within room;
  over = over M (early_at J y) (ready J q y) (arrive K p y) (late_at K y) (duration_at J y) (m.late_is y l) within room;
}
  where
    late : (M e l r f k i d : ℕ) → f + l + d ≡ M → k + e + d ≡ M → max f i ≤ k → r + max f i + d ≤ M → max e r ≤ l
    late M e l r f k i d mirrored other within room = omega arith

    over : (M e r s k d : ℕ) → k + e + d ≡ M → s ≤ k → r + s + d ≤ M → max e r + s + d ≤ M
    over M e r s k d mirrored within room = omega arith

-- what leaves room for y also does so for what the mirrored list acquires before it, with the manoeuvre between
room_before : (M : ℕ) (J K : Orbit) → Mirrors M J K → (p : Place) (u y : ℕ) → IsOfStrip J p → strip_of y < length J.strips
    → u + arrive K p y + duration_at J y ≤ M → LeavesRoom M J (After u y) p
room_before M J K m Root u y of l room = tt
room_before M J K m (After t x) u y of l room = (
  of,
  sum M (early_at K y) u t (duration_at J y) (duration_at J x) (duration_at K x) (manoeuvre_at J y x) (manoeuvre_at K x y)
      (m.same_duration x of) (m.turned_manoeuvre x y of l) room,
)
  where
    sum : (M e u t d f g n k : ℕ) → g ≡ f → k ≡ n → u + max e (t + g + k) + d ≤ M → u + d + n + t + f ≤ M
    sum M e u t d f g n k same turned room = omega arith

Fits-behind_from : (M : ℕ) (J K : Orbit) → Mirrors M J K → (q p : Place) (b : List ℕ) → IsOfStrip J p → StripsExist J b
    → Fits K p b → LeavesRoom M J q (place_after K p b) → FitsBehind M J q p b
Fits-behind_from M J K m q p [] of exist fits room = record { fits = tt; room = room }
Fits-behind_from M J K m q p (y ∷ rest) of exist fits room =
    let s = arrive K p y in
    let behind = Fits-behind_from M J K m q (After s y) rest exist.0 exist.1 fits.1 room in
    let before = place_after J q (reverse rest) in
    let begins = begins_in_time M J K m before p y exist.0 fits.0 behind.room.1 in
    let u = arrive J before y in
    let whole : List ℕ → Type 0 = λ b. Fits J q b × LeavesRoom M J (place_after J q b) p in
    let both : whole (reverse rest ++ y ∷ []) = (
      Fits-push J q (reverse rest) y behind.fits begins.in_time,
      subst (λ (at : Place). LeavesRoom M J at p) (sym (place_after_push J q (reverse rest) y)) (room_before M J K m p u y of exist.0 begins.over),
    ) in
    let turned_round : whole (reverse (y ∷ rest)) = subst whole (sym (reverse_onto rest y [])) both in
    record { fits = turned_round.0; room = turned_round.1 }

-- A mirrored list that fits on the mirror, turned round, fits behind a place that leaves room for what it has come to.
pub Fits-behind : (M : ℕ) (J K : Orbit) → Mirrors M J K → (q : Place) (b : List ℕ) → StripsExist J b
    → Fits K Root b → LeavesRoom M J q (place_after K Root b) → Fits J q (reverse b)
Fits-behind M J K m q b exist fits room = (Fits-behind_from M J K m q Root b tt exist fits room).fits

-- A place behind which a mirrored list fits, turned round, leaves room for what that list has come to.
pub LeavesRoom-fits : (M : ℕ) (J K : Orbit) → Mirrors M J K → (q : Place) (b : List ℕ) (y : ℕ) → StripsExist J b
    → strip_of y < length J.strips → Fits J q (reverse (b ++ y ∷ [])) → LeavesRoom M J q (place_after K Root (b ++ y ∷ []))
LeavesRoom-fits M J K m q b y exist l fits =
    let first : Fits J q (y ∷ reverse b) = subst (λ (xs : List ℕ). Fits J q xs) (reverse-append b (y ∷ [])) fits in
    let met = meet M K J (Mirrors-back M J K m) q y (reverse b) (subst (λ (n : ℕ). strip_of y < n) (sym m.same_size) l)
    (StripsExist-reverse K b (StripsExist-mirror M J K m b exist)) first in
    let from_end = subst (λ (xs : List ℕ). arrive K (place_after K Root xs) y + arrive J q y + duration_at K y ≤ M) (reverse-reverse b) met in
    subst (λ (at : Place). LeavesRoom M J q at) (sym (place_after_push K Root b y))
    (l, sum M (arrive K (place_after K Root b) y) (early_at J y) (ready J q y) (duration_at J y) (duration_at K y) (m.same_duration y l) from_end)
  where
    sum : (M s e r d g : ℕ) → g ≡ d → s + max e r + g ≤ M → r + s + d ≤ M
    sum M s e r d g same met = omega arith
