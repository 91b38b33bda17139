-- How groups grow.
use Rattle.std.proofs.Common.{◌≡◌, ◌⊎◌, ℕ, ◌+◌, ◌<◌, List, [], ◌∷◌, ◌++◌, All, length, take, get_or, refl, sym, ◌∙◌, ap, subst, inl, inr, arith}
use Rattle.std.proofs.lemmas.Bool.{cases_lt}
use Rattle.std.proofs.lemmas.List.{take_more, get_or_default, get_or_append_left, get_or_push, length-append}
use Rattle.std.proofs.lemmas.List.Sorted.{Contains-permutation, IsPermutation-sym}
use Rattle.std.specs.List.{Contains}
use Rattle.std.specs.List.Sorted.{IsPermutation}
use Rattle.joiner.proofs.Looking.{All-at, place_of_element}
use Rattle.joiner.specs.Entries.{IsOfLast}
use Rattle.joiner.specs.Grouping.{IsGathered}
use Rattle.joiner.specs.declared.entry.Entry.{Entry}

-- an element of a list with one more
Contains-before : {X : Type 0} (xs : List X) (x y : X) → Contains xs y → Contains (xs ++ x ∷ []) y
Contains-before xs x y h =
    (h.0, omega (arith, h.1, length-append xs (x ∷ [])), get_or_append_left xs (x ∷ []) y h.0 h.1 ∙ h.2)

Contains-added : {X : Type 0} (xs : List X) (x : X) → Contains (xs ++ x ∷ []) x
Contains-added xs x = (length xs, omega (arith, length-append xs (x ∷ [])), get_or_push xs x x (length xs) refl)

Contains-cases : {X : Type 0} (xs : List X) (x y : X) → Contains (xs ++ x ∷ []) y → (Contains xs y) ⊎ (y ≡ x)
Contains-cases xs x y h =
    elim (cases_lt h.0 (length xs)) [
      | inl before ↦ inl (h.0, before, sym (get_or_append_left xs (x ∷ []) y h.0 before) ∙ h.2)
      | inr past ↦
          let last : length xs ≡ h.0 = omega (arith, past, h.1, length-append xs (x ∷ [])) in
          inr (sym h.2 ∙ get_or_push xs x y h.0 last)
    ]

-- the next entry belongs to the group
pub IsGathered-takes : (entries : List Entry) (n y : ℕ) (x : Entry) (group : List Entry) → n < length entries → x ≡ get_or entries n x → IsOfLast y x.tip
    → IsGathered (take n entries) y group → IsGathered (take (n + 1) entries) y (group ++ x ∷ [])
IsGathered-takes entries n y x group l is of h =
    let P : List Entry → Type 0 = λ es. IsGathered es y (group ++ x ∷ []) in
    let es = take n entries in
    let more : take (n + 1) entries ≡ es ++ x ∷ [] = take_more entries n x l ∙ ap (λ (w : Entry). es ++ w ∷ []) (sym is) in
    let last : (w : Entry) → Contains (group ++ x ∷ []) w → IsOfLast y w.tip = λ w there.
    elim (Contains-cases group x w there) [
      | inl before ↦ h.last w before
      | inr now ↦ subst (λ (v : Entry). IsOfLast y v.tip) (sym now) of
    ] in
    let each : (w : Entry) → Contains (group ++ x ∷ []) w → Contains (es ++ x ∷ []) w = λ w there.
    elim (Contains-cases group x w there) [
      | inl before ↦ Contains-before es x w (h.each w before)
      | inr now ↦ subst (λ (v : Entry). Contains (es ++ x ∷ []) v) (sym now) (Contains-added es x)
    ] in
    let all : (w : Entry) → Contains (es ++ x ∷ []) w → IsOfLast y w.tip → Contains (group ++ x ∷ []) w = λ w there of_w.
    elim (Contains-cases es x w there) [
      | inl before ↦ Contains-before group x w (h.all w before of_w)
      | inr now ↦ subst (λ (v : Entry). Contains (group ++ x ∷ []) v) (sym now) (Contains-added group x)
    ] in
    subst P (sym more) (record { last = last; each = each; all = all })

-- the next entry doesn't
pub IsGathered-skips : (entries : List Entry) (n y : ℕ) (x : Entry) (group : List Entry) → n < length entries → x ≡ get_or entries n x → (IsOfLast y x.tip → ⊥)
    → IsGathered (take n entries) y group → IsGathered (take (n + 1) entries) y group
IsGathered-skips entries n y x group l is other h =
    let P : List Entry → Type 0 = λ es. IsGathered es y group in
    let es = take n entries in
    let more : take (n + 1) entries ≡ es ++ x ∷ [] = take_more entries n x l ∙ ap (λ (w : Entry). es ++ w ∷ []) (sym is) in
    let all : (w : Entry) → Contains (es ++ x ∷ []) w → IsOfLast y w.tip → Contains group w = λ w there of_w.
    elim (Contains-cases es x w there) [
      | inl before ↦ h.all w before of_w
      | inr now ↦ absurd (other (subst (λ (v : Entry). IsOfLast y v.tip) now of_w))
    ] in
    subst P (sym more) (record { last = h.last; each = λ w there. Contains-before es x w (h.each w there); all = all })

-- a permutation of a group gathers the same
pub IsGathered-permutation : (entries : List Entry) (y : ℕ) (group sorted : List Entry) → IsPermutation group sorted → IsGathered entries y group → IsGathered entries y sorted
IsGathered-permutation entries y group sorted same h =
    let back = IsPermutation-sym group sorted same in
    record {
      last = λ w there. h.last w (Contains-permutation sorted group w back there);
      each = λ w there. h.each w (Contains-permutation sorted group w back there);
      all = λ w there of. Contains-permutation group sorted w same (h.all w there of);
    }

-- what holds of all entries holds of those of a group
pub All-gathered : (P : Entry → Type 0) (entries : List Entry) (y : ℕ) (group : List Entry) → IsGathered entries y group → All P entries → All P group
All-gathered P entries y group h all k d l =
    let there = h.each (get_or group k d) (k, l, get_or_default group k (get_or group k d) d l) in
    All-at P entries there.0 (get_or group k d) all (place_of_element entries (get_or group k d) there.0 there.1 there.2)

pub All-last : (entries : List Entry) (y : ℕ) (group : List Entry) → IsGathered entries y group → All (λ w. IsOfLast y w.tip) group
All-last entries y group h k d l = h.last (get_or group k d) (k, l, get_or_default group k (get_or group k d) d l)
