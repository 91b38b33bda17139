-- Where each place of a history stands in exactly one party, whose places rise, the history is an interleaving of the parties' entries.
use Rattle.std.proofs.Common.{◌≡◌, ◌≢◌, ◌≤◌, ◌<◌, ◌+◌, ◌==◌, ⊎_elim, ℕ, zero, suc, List, [], ◌∷◌, ◌++◌, length, map, set, sum_by, All, Some, slice_get, refl, ap, sym, ◌∙◌, subst, arith, append_assoc, length-append}
use Rattle.std.specs.Prelude.{nat_lt}
use Rattle.std.proofs.lemmas.Bool.Decides.{nat_tests}
use Rattle.std.proofs.lemmas.List.{append-nil}
use Rattle.std.proofs.lemmas.List.Sums.{sum_by-cons}
use Rattle.std.proofs.lemmas.List.Elements.{All-nil, All-cons, All-head, All-tail, All-set}
use Rattle.std.proofs.lemmas.Option.{slice_get_within}
use mathlib.Core.Option.{some}
use lib.ListN.{get_elem?}
use Rattle.turn_lock.specs.declared.view.Placed.{Placed}
use Rattle.turn_lock.specs.Interleaving.{IsInterleaving}
use Rattle.turn_lock.specs.Views.{one_if, StandsFrom, times}
use Rattle.turn_lock.specs.Inside.{entries}
use Rattle.pass_weight.proofs.Totals.{all_at, sum_set, terms_zero}
use Rattle.turn_lock.proofs.Places.{stands_next, first_or_none, slice_get_seam}
use Rattle.turn_lock.proofs.Tickets.{none_where, one_where}

inside : (k m : ℕ) → k < m → one_if (nat_lt k m) ≡ 1
inside k m h = grind (arith, nat_tests)

module _ {A B : Type 0} where
  map_set : (g : A → B) (xs : List A) (i : ℕ) (a : A) → map g (set xs i a) ≡ set (map g xs) i (g a)
  map_set g [] i a = refl
  map_set g (x ∷ xs) zero a = refl
  map_set g (x ∷ xs) (suc i) a = ap (λ l. g x ∷ l) (map_set g xs i a)

  map_get : (g : A → B) (xs : List A) (i : ℕ) (a : A) → get_elem? xs i ≡ some a → slice_get (map g xs) i ≡ Some (g a)
  map_get g [] i a e = absurd (cc)
  map_get g (x ∷ xs) zero a e = (let same : x ≡ a = cc in ap (λ (y : A). Some (g y)) same)
  map_get g (x ∷ xs) (suc i) a e = map_get g xs i a e

module _ {E : Type 0} where
  -- past the end of the history no party has an entry
  none_past_end : (least : ℕ) (history : List E) (ps : List (Placed E)) → length history ≤ least → StandsFrom least history ps → entries ps ≡ []
  none_past_end least history [] h s = refl
  none_past_end least history (x ∷ xs) h s = absurd (let within = slice_get_within history x.place x.entry s.1 in let le = s.0 in omega arith)

  all_past_end : (least : ℕ) (history : List E) (parties : List (List (Placed E))) → length history ≤ least → All (StandsFrom least history) parties
      → All (λ own. own ≡ []) (map entries parties)
  all_past_end least history [] h all = All-nil (λ own. own ≡ [])
  all_past_end least history (ps ∷ more) h all =
      All-cons (λ own. own ≡ []) (entries ps) (map entries more)
      (none_past_end least history ps h (All-head (StandsFrom least history) ps more all))
      (all_past_end least history more h (All-tail (StandsFrom least history) ps more all))

  -- the party that has a place which one of them has
  abbrev Owner : ℕ → List (List (Placed E)) → Type 0
  Owner n parties = (i : ℕ) × (p : Placed E) × (qs : List (Placed E)) × (get_elem? parties i ≡ some (p ∷ qs)) × (p.place ≡ n)

  owner : (n : ℕ) (history : List E) (parties : List (List (Placed E))) → All (StandsFrom n history) parties → sum_by (times n) parties ≡ 1 → Owner n parties
  owner n history [] all one = absurd (omega arith)
  owner n history (ps ∷ more) all one =
      ⊎_elim
      (λ (t : (p : Placed E) × (qs : List (Placed E)) × (ps ≡ p ∷ qs) × (p.place ≡ n)). (0, t.0, t.1, ap some t.2, t.3))
      (λ (none : times n ps ≡ 0).
      let rest = owner n history more (All-tail (StandsFrom n history) ps more all) (let parts = sum_by-cons (times n) ps more in omega arith) in
      (suc rest.0, rest.1, rest.2, rest.3, rest.4))
      (first_or_none n history ps (All-head (StandsFrom n history) ps more all))

  -- the parties without the entry at the least place
  module _ (n : ℕ) (history : List E) (parties : List (List (Placed E))) (i : ℕ) (p : Placed E) (qs : List (Placed E)) where
    left_stand : All (StandsFrom n history) parties → sum_by (times n) parties ≡ 1 → get_elem? parties i ≡ some (p ∷ qs) → p.place ≡ n
        → All (StandsFrom (suc n) history) (set parties i qs)
    left_stand all one at place =
        let mine = all_at (StandsFrom n history) parties i (p ∷ qs) all at in
        let changed = sum_set (times n) parties i (p ∷ qs) qs at in
        let parts = sum_by-cons (λ (x : Placed E). one_if (x.place == n)) p qs in
        let here = one_where p.place n place in
        let none = terms_zero (times n) (set parties i qs) (omega arith) in
        let next : StandsFrom (suc n) history qs = subst (λ (k : ℕ). StandsFrom (suc k) history qs) place mine.2 in
        let either = All-set (λ ps. times n ps ≡ 0 → StandsFrom (suc n) history ps) parties i qs (λ _. next)
        (λ k d h. λ z. stands_next n history _ (all k d h) z) in
        λ k d h. either k d h (none k d h)

    left_times : (k : ℕ) → k ≢ n → get_elem? parties i ≡ some (p ∷ qs) → p.place ≡ n → sum_by (times k) (set parties i qs) ≡ sum_by (times k) parties
    left_times k ne at place =
        let changed = sum_set (times k) parties i (p ∷ qs) qs at in
        let parts = sum_by-cons (λ (x : Placed E). one_if (x.place == k)) p qs in
        let off = none_where p.place k (λ e. ne (sym e ∙ place)) in
        omega arith

    -- the entry of the party that has the first place, and then the rest
    first_entry : (x : E) (xs : List E) → All (StandsFrom n history) parties → get_elem? parties i ≡ some (p ∷ qs) → p.place ≡ n → slice_get history n ≡ Some x
        → IsInterleaving xs (map entries (set parties i qs)) → IsInterleaving (x ∷ xs) (map entries parties)
    first_entry x xs all at place there rest =
        let mine = all_at (StandsFrom n history) parties i (p ∷ qs) all at in
        let there' : slice_get history n ≡ Some p.entry = subst (λ (k : ℕ). slice_get history k ≡ Some p.entry) place mine.1 in
        let same : p.entry ≡ x = cc in
        let first : slice_get (map entries parties) i ≡ Some (x ∷ entries qs) = map_get entries parties i (p ∷ qs) at ∙ ap (λ (y : E). Some (y ∷ entries qs)) same in
        (i, entries qs, first, subst (IsInterleaving xs) (map_set entries parties i qs) rest)

  pub interleaved_from : (front rest history : List E) (parties : List (List (Placed E))) (n : ℕ) → front ++ rest ≡ history → length front ≡ n
      → All (StandsFrom n history) parties → ((k : ℕ) → n ≤ k → sum_by (times k) parties ≡ one_if (nat_lt k (length history)))
      → IsInterleaving rest (map entries parties)
  interleaved_from front [] history parties n is here all times' =
      all_past_end n history parties (let whole = ap length (sym is ∙ append-nil front) in omega arith) all
  interleaved_from front (x ∷ xs) history parties n is here all times' =
      let size : length history ≡ length front + length (x ∷ xs) = ap length (sym is) ∙ length-append front (x ∷ xs) in
      let one : sum_by (times n) parties ≡ 1 = times' n (omega arith) ∙ inside n (length history) (omega arith) in
      let o = owner n history parties all one in
      let there : slice_get history n ≡ Some x = subst (λ (l : List E). slice_get l n ≡ Some x) is (slice_get_seam front x xs n here) in
      first_entry n history parties o.0 o.1 o.2 x xs all o.3 o.4 there
      (interleaved_from (front ++ x ∷ []) xs history (set parties o.0 o.2) (suc n) (append_assoc front (x ∷ []) xs ∙ is) (omega (arith, length-append front (x ∷ [])))
      (left_stand n history parties o.0 o.1 o.2 all one o.3 o.4)
      (λ k le. left_times n history parties o.0 o.1 o.2 k (λ e. omega arith) o.3 o.4 ∙ times' k (omega arith)))
