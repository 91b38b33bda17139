-- The two sides meet at the cut: where the forward side goes no further, the backward side is stopped by nothing.
use Rattle.std.proofs.Common.{◌≡◌, ℕ, ◌+◌, ◌<◌, ◌≤◌, max, List, [], ◌∷◌, ◌++◌, reverse, refl, sym, ◌∙◌, ap, subst, append_assoc, arith}
use Rattle.std.specs.Prelude.{⊤}
use Rattle.std.proofs.lemmas.List.{reverse-append, reverse-reverse}
use Rattle.proof_log.proofs.Exchanging.{IsStopped}
use Rattle.strip_model.proofs.Meeting.{meet}
use Rattle.strip_model.proofs.Mirrored.{Mirrors, Mirrors-back, StripsExist-mirror}
use Rattle.strip_model.proofs.Orders.{IsFeasibleOrder}
use Rattle.strip_model.proofs.Starts.{place_after-append, Fits-append_parts}
use Rattle.strip_model.proofs.Words.{StripsExist-append_parts}
use Rattle.strip_model.specs.Horizon.{horizon_of}
use Rattle.strip_model.specs.Mirror.{mirror_of}
use Rattle.strip_model.specs.Orbit.{Orbit, early_at, duration_at, manoeuvre_at}
use Rattle.strip_model.specs.Plan.{StripsExist}
use Rattle.strip_model.specs.Side.{face_of}
use Rattle.strip_model.specs.Starts.{Place, Root, After, arrive, place_after}
use Rattle.strip_model.specs.declared.end.End.TheVariants.{Forward, Backward}

-- the list is empty, or its first starts after the cut
abbrev pub BeginsLate : Orbit → ℕ → Place → List ℕ → Type 0
BeginsLate J cut q [] = ⊤
BeginsLate J cut q (y ∷ ys) = cut < arrive J q y

-- what stops the forward side starts after the cut
pub BeginsLate-stopped : (I : Orbit) (cut : ℕ) (path left : List ℕ) → IsStopped (face_of I cut Forward) path left
    → BeginsLate I cut (place_after I Root path) left
BeginsLate-stopped I cut path [] stopped = tt
BeginsLate-stopped I cut path (y ∷ left) stopped = past cut (arrive I (place_after I Root path) y) stopped
  where
    past : (cut s : ℕ) → (s ≤ cut → ⊥) → cut < s
    past cut s h = omega arith

-- what comes next after a start past the cut starts past it too
next_starts_late : (J : Orbit) (cut s x y : ℕ) → cut < s → cut < arrive J (After s x) y
next_starts_late J cut s x y = later cut s (duration_at J x) (manoeuvre_at J x y) (early_at J y)
  where
    later : (cut s d m early : ℕ) → cut < s → cut < max early (s + d + m)
    later cut s d m early late = omega arith

-- and so does whatever comes later
starts_late : (J : Orbit) (cut s x : ℕ) (front : List ℕ) (y : ℕ) → cut < s → cut < arrive J (place_after J (After s x) front) y
starts_late J cut s x [] y late = next_starts_late J cut s x y late
starts_late J cut s x (z ∷ front) y late = starts_late J cut (arrive J (After s x) z) z front y (next_starts_late J cut s x z late)

-- in a list whose first starts after the cut each does
starts_late_behind : (J : Orbit) (cut : ℕ) (q : Place) (front : List ℕ) (y : ℕ) (behind : List ℕ) → BeginsLate J cut q (front ++ y ∷ behind)
    → cut < arrive J (place_after J q front) y
starts_late_behind J cut q [] y behind late = late
starts_late_behind J cut q (x ∷ front) y behind late = starts_late J cut (arrive J q x) x front y late

-- a list that, turned round, splits at y splits there itself
split_turned : (d done rest : List ℕ) (y : ℕ) → reverse d ≡ done ++ y ∷ rest → d ≡ reverse rest ++ y ∷ reverse done
split_turned d done rest y split =
    sym (reverse-reverse d)
    ∙ ap (λ (xs : List ℕ). reverse xs) split
    ∙ reverse-append done (y ∷ rest)
    ∙ ap (λ (xs : List ℕ). xs ++ reverse done) (reverse-append (y ∷ []) rest)
    ∙ append_assoc (reverse rest) (y ∷ []) (reverse done)

-- The meeting at the cut. Forward the path u was stopped before d, so all of d starts after the cut behind u. On the mirror d,
-- turned round, was exchanged for v as far as `left`, in front of u turned round. Then nothing is left: the first of it would
-- start late enough in the instance's own time, so the cap wouldn't stop it.
pub no_stop : (I : Orbit) → Mirrors (horizon_of I) I (mirror_of I) → (cut : ℕ) (u d v done left : List ℕ)
    → IsFeasibleOrder (mirror_of I) (v ++ (left ++ reverse u)) → reverse d ≡ done ++ left
    → BeginsLate I cut (place_after I Root u) d → IsStopped (face_of I cut Backward) v left → left ≡ []
no_stop I m cut u d v done [] order split late stopped = refl
no_stop I m cut u d v done (y ∷ rest) order split late stopped =
    let K = mirror_of I in
    let M = horizon_of I in
    let q = place_after K Root v in
    let behind = rest ++ reverse u in
    let exist_mirror : StripsExist K (y ∷ behind) = (StripsExist-append_parts K v (y ∷ behind) order.in_time.exist).1 in
    let exist : StripsExist I (y ∷ behind) = StripsExist-mirror M K I (Mirrors-back M I K m) (y ∷ behind) exist_mirror in
    let met = meet M I K m q y behind exist.0 exist.1 (Fits-append_parts K Root v (y ∷ behind) order.in_time.fits).1 in
    let turned : reverse behind ≡ u ++ reverse rest =
    reverse-append rest (reverse u) ∙ ap (λ (xs : List ℕ). xs ++ reverse rest) (reverse-reverse u) in
    let place : place_after I Root (reverse behind) ≡ place_after I (place_after I Root u) (reverse rest) =
    ap (λ (xs : List ℕ). place_after I Root xs) turned ∙ place_after-append I Root u (reverse rest) in
    let after_cut = starts_late_behind I cut (place_after I Root u) (reverse rest) y (reverse done)
    (subst (λ (xs : List ℕ). BeginsLate I cut (place_after I Root u) xs) (split_turned d done rest y split) late) in
    let here = subst (λ (p : Place). arrive I p y + arrive K q y + duration_at I y ≤ M) place met in
    absurd (stopped (sum cut (arrive I (place_after I (place_after I Root u) (reverse rest)) y) (arrive K q y) (duration_at I y) (duration_at K y) M
    (m.same_duration y exist.0) after_cut here))
  where
    sum : (cut s t d g M : ℕ) → g ≡ d → cut < s → s + t + d ≤ M → t + g + cut < M
    sum cut s t d g M same late met = omega arith
