-- What a path needs: the twins that it lacks, in the directions of those that it has.
use Rattle.std.proofs.Common.{◌≡◌, ℕ, true, false, if◌then◌else◌, List, [], ◌∷◌, Option, Some, None, sym, ◌∙◌, ap, inl, inr, true≢false}
use Rattle.std.proofs.lemmas.Bool.{cases_Bool, cond-true, cond-false}
use Rattle.std.specs.List.{flat_map}
use Rattle.std.specs.Option.{option_map_or}
use Rattle.strip_model.proofs.Words.{has_left, has_right, has_cases, has_head, has_tail, has_cons_cases}
use Rattle.strip_model.specs.Directed.{strip_of, has, has_strip}
use Rattle.strip_model.specs.Orbit.{Orbit, partner_of}
use Rattle.strip_model.specs.Reach.{need_of, needs}

-- z is the twin of a directed strip of the list, in its direction, and its strip doesn't stand in the path
pub record Need (J : Orbit) (path : List ℕ) (z : ℕ) (xs : List ℕ) : Type 0 where
  pub of : ℕ
  pub there : has of xs ≡ true
  pub is : partner_of J of ≡ Some z
  pub lacks : has_strip (strip_of z) path ≡ false

-- what z is, if it is one of the needs that a twin may bring
record IsNeedOf (path : List ℕ) (twin : Option ℕ) (z : ℕ) : Type 0 where
  is : twin ≡ Some z
  lacks : has_strip (strip_of z) path ≡ false

abbrev need_from : List ℕ → Option ℕ → List ℕ
need_from path twin = option_map_or (λ z. if has_strip (strip_of z) path then [] else z ∷ []) twin []

IsNeedOf-from_has : (path : List ℕ) (twin : Option ℕ) (z : ℕ) → has z (need_from path twin) ≡ true → IsNeedOf path twin z
IsNeedOf-from_has path None z h = absurd (true≢false (sym h))
IsNeedOf-from_has path (Some w) z h =
    elim (cases_Bool (has_strip (strip_of w) path)) [
      | inl stands ↦ absurd (true≢false (sym h ∙ ap (λ (xs : List ℕ). has z xs) (cond-true (has_strip (strip_of w) path) [] (w ∷ []) stands)))
      | inr lacks ↦ let same : w ≡ z = only w z (sym (ap (λ (xs : List ℕ). has z xs) (cond-false (has_strip (strip_of w) path) [] (w ∷ []) lacks)) ∙ h) in
          record { is = ap Some same; lacks = ap (λ (k : ℕ). has_strip (strip_of k) path) (sym same) ∙ lacks }
    ]
  where
    only : (w z : ℕ) → has z (w ∷ []) ≡ true → w ≡ z
    only w z h = elim (has_cons_cases z w [] h) [ inl same ↦ sym same | inr later ↦ absurd (true≢false (sym later)) ]

has-from_IsNeedOf : (path : List ℕ) (twin : Option ℕ) (z : ℕ) → IsNeedOf path twin z → has z (need_from path twin) ≡ true
has-from_IsNeedOf path twin z h =
    ap (λ (o : Option ℕ). has z (need_from path o)) h.is
    ∙ ap (λ (xs : List ℕ). has z xs) (cond-false (has_strip (strip_of z) path) [] (z ∷ []) h.lacks)
    ∙ has_head z []

Need-from_list : (J : Orbit) (path xs : List ℕ) (z : ℕ) → has z (flat_map (need_of J path) xs) ≡ true → Need J path z xs
Need-from_list J path [] z h = absurd (true≢false (sym h))
Need-from_list J path (x ∷ xs) z h =
    elim (has_cases z (need_of J path x) (flat_map (need_of J path) xs) h) [
      | inl here ↦ let need = IsNeedOf-from_has path (partner_of J x) z here in
          record { of = x; there = has_head x xs; is = need.is; lacks = need.lacks }
      | inr later ↦ let need = Need-from_list J path xs z later in
          record { of = need.of; there = has_tail need.of x xs need.there; is = need.is; lacks = need.lacks }
    ]

list-from_Need : (J : Orbit) (path xs : List ℕ) (z x : ℕ) → has x xs ≡ true → partner_of J x ≡ Some z → has_strip (strip_of z) path ≡ false
    → has z (flat_map (need_of J path) xs) ≡ true
list-from_Need J path [] z x there is lacks = absurd (true≢false (sym there))
list-from_Need J path (y ∷ xs) z x there is lacks =
    elim (has_cons_cases x y xs there) [
      | inl same ↦ has_left z (need_of J path y) (flat_map (need_of J path) xs)
          (has-from_IsNeedOf path (partner_of J y) z (record { is = ap (λ (k : ℕ). partner_of J k) (sym same) ∙ is; lacks = lacks }))
      | inr later ↦ has_right z (need_of J path y) (flat_map (need_of J path) xs) (list-from_Need J path xs z x later is lacks)
    ]

-- a need is the twin of a directed strip of the path, which lacks it
pub Need-from_needs : (J : Orbit) (path : List ℕ) (z : ℕ) → has z (needs J path) ≡ true → Need J path z path
unfolding needs
Need-from_needs J path z h = Need-from_list J path path z h

-- the twin of a directed strip of the path, in its direction, is a need if the path lacks its strip
pub needs-from_Need : (J : Orbit) (path : List ℕ) (z x : ℕ) → has x path ≡ true → partner_of J x ≡ Some z → has_strip (strip_of z) path ≡ false
    → has z (needs J path) ≡ true
unfolding needs
needs-from_Need J path z x there is lacks = list-from_Need J path path z x there is lacks
