-- Places that rise.
use Rattle.std.proofs.Common.{◌≡◌, ◌≤◌, ◌<◌, ◌+◌, ◌==◌, ◌⊎◌, inl, inr, ℕ, zero, suc, List, [], ◌∷◌, ◌++◌, length, Some, slice_get, refl, ap, ◌∙◌, subst, arith, append_assoc, length-append, zero-add}
use Rattle.std.specs.Prelude.{nat_lt}
use Rattle.std.proofs.lemmas.Bool.Decides.{nat_tests}
use Rattle.std.proofs.lemmas.List.Sums.{sum_by-cons, sum_by-append}
use Rattle.std.proofs.lemmas.Option.{slice_get_within}
use mathlib.Core.List.{IsPrefix}
use mathlib.Core.Logic.{dite}
use native.Mathlib.Decide.{ℕ_discrete}
use Rattle.turn_lock.specs.declared.view.Placed.{Placed}
use Rattle.turn_lock.specs.Views.{one_if, StandsFrom, times, placed}
use Rattle.turn_lock.specs.Inside.{entries}
use Rattle.turn_lock.proofs.Prefixes.{prefix_get}
use Rattle.turn_lock.proofs.Tickets.{none_where}

module _ {E : Type 0} where
  -- what stands in a history stands in a longer one
  pub stands_longer : (least : ℕ) (history longer : List E) (ps : List (Placed E)) → IsPrefix history longer → StandsFrom least history ps → StandsFrom least longer ps
  stands_longer least history longer [] p s = tt
  stands_longer least history longer (x ∷ xs) p s = (s.0, prefix_get history longer x.place x.entry p s.1, stands_longer (suc x.place) history longer xs p s.2)

  pub slice_get_seam : (front : List E) (x : E) (xs : List E) (n : ℕ) → length front ≡ n → slice_get (front ++ x ∷ xs) n ≡ Some x
  slice_get_seam [] x xs zero e = refl
  slice_get_seam [] x xs (suc n) e = absurd (omega arith)
  slice_get_seam (y ∷ ys) x xs zero e = absurd (omega arith)
  slice_get_seam (y ∷ ys) x xs (suc n) e = slice_get_seam ys x xs n (omega arith)

  -- entries stand where they were added
  pub stands_placed : (least n : ℕ) (front added : List E) → least ≤ n → length front ≡ n → StandsFrom least (front ++ added) (placed n added)
  stands_placed least n front [] h e = tt
  stands_placed least n front (x ∷ xs) h e = (
    h,
    slice_get_seam front x xs n e,
    subst (λ (l : List E). StandsFrom (suc n) l (placed (suc n) xs)) (append_assoc front (x ∷ []) xs)
        (stands_placed (suc n) (suc n) (front ++ x ∷ []) xs (omega arith) (omega (arith, length-append front (x ∷ [])))),
  )

  -- a party's own entries, and then those that were added
  pub stands_added : (least : ℕ) (found added : List E) (ps : List (Placed E)) → least ≤ length found → StandsFrom least found ps
      → StandsFrom least (found ++ added) (ps ++ placed (length found) added)
  stands_added least found added [] h s = stands_placed least (length found) found added h refl
  stands_added least found added (x ∷ xs) h s = (
    s.0,
    prefix_get found (found ++ added) x.place x.entry (added, refl) s.1,
    (let within = slice_get_within found x.place x.entry s.1 in stands_added (suc x.place) found added xs (omega arith) s.2),
  )

  -- each place from n on is one of those that were added
  pub times_placed : (k n : ℕ) (added : List E) → times k (placed n added) + one_if (nat_lt k n) ≡ one_if (nat_lt k (n + length added))
  times_placed k n [] = let e : n ≡ n + 0 = omega arith in zero-add (one_if (nat_lt k n)) ∙ ap (λ (m : ℕ). one_if (nat_lt k m)) e
  times_placed k n (x ∷ xs) = step k n (length xs) _ _ (sum_by-cons (λ (p : Placed E). one_if (p.place == k)) (record { place = n; entry = x }) (placed (suc n) xs)) (times_placed k (suc n) xs)
    where
      step : (k n m t whole : ℕ) → whole ≡ one_if (n == k) + t → t + one_if (nat_lt k (suc n)) ≡ one_if (nat_lt k (suc n + m))
          → whole + one_if (nat_lt k n) ≡ one_if (nat_lt k (n + suc m))
      step k n m t whole e h = grind (arith, nat_tests)

  pub times_append : (k : ℕ) (ps qs : List (Placed E)) → times k (ps ++ qs) ≡ times k ps + times k qs
  times_append k ps qs = sum_by-append (λ (p : Placed E). one_if (p.place == k)) ps qs

  pub entries_placed : (n : ℕ) (added : List E) → entries (placed n added) ≡ added
  entries_placed n [] = refl
  entries_placed n (x ∷ xs) = ap (λ l. x ∷ l) (entries_placed (suc n) xs)

  -- a place below the least one is none of theirs
  pub none_below : (least n : ℕ) (history : List E) (ps : List (Placed E)) → n < least → StandsFrom least history ps → times n ps ≡ 0
  none_below least n history [] h s = refl
  none_below least n history (x ∷ xs) h s =
      let here = none_where x.place n (λ e. omega arith) in
      let there = none_below (suc x.place) n history xs (omega arith) s.2 in
      omega (arith, sum_by-cons (λ (p : Placed E). one_if (p.place == n)) x xs)

  -- where a place is none of theirs, the next is the least
  pub stands_next : (n : ℕ) (history : List E) (ps : List (Placed E)) → StandsFrom n history ps → times n ps ≡ 0 → StandsFrom (suc n) history ps
  stands_next n history [] s none = tt
  stands_next n history (x ∷ xs) s none =
      let parts = sum_by-cons (λ (p : Placed E). one_if (p.place == n)) x xs in
      let off : one_if (x.place == n) ≡ 0 = omega arith in
      (later n x.place s.0 off, s.1, s.2)
    where
      later : (n k : ℕ) → n ≤ k → one_if (k == n) ≡ 0 → suc n ≤ k
      later n k h off = grind (arith, nat_tests)

  -- the first one is at the least place, or that place is none of theirs
  pub first_or_none : (n : ℕ) (history : List E) (ps : List (Placed E)) → StandsFrom n history ps
      → ((p : Placed E) × (qs : List (Placed E)) × (ps ≡ p ∷ qs) × (p.place ≡ n)) ⊎ (times n ps ≡ 0)
  first_or_none n history [] s = inr refl
  first_or_none n history (x ∷ xs) s =
      dite (ℕ_discrete x.place n)
      (λ e. inl (x, xs, refl, e))
      (λ ne. inr (none_below (suc n) n history (x ∷ xs) (omega arith) ((let le = s.0 in omega arith), s.1, s.2)))
