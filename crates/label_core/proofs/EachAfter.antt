-- Lists of which each element keeps a rule that looks at what came before it.
use Rattle.std.proofs.Common.{◌≡◌, ℕ, zero, suc, Bool, true, List, [], ◌∷◌, ◌++◌, take, filter, slice_get, Some, append_assoc, append-nil, sym, ◌∙◌, ap, subst, inl, inr}
use Rattle.std.specs.Bool.{⊤}
use Rattle.std.proofs.lemmas.Bool.{cases_Bool, cond-true, cond-false}
use Rattle.std.proofs.lemmas.List.Elements.{filter-append}

-- each element of the list keeps the rule, after what came earlier and the elements before it
abbrev pub EachAfter : {X : Type 0} → (List X → X → Type 0) → List X → List X → Type 0
EachAfter P earlier [] = ⊤
EachAfter P earlier (x ∷ xs) = P earlier x × EachAfter P (earlier ++ x ∷ []) xs

pub EachAfter-at : {X : Type 0} (P : List X → X → Type 0) (earlier xs : List X) → EachAfter P earlier xs → (j : ℕ) (x : X) → slice_get xs j ≡ Some x
    → P (earlier ++ take j xs) x
EachAfter-at P earlier [] each j x is = absurd (nothing j x is)
  where
    nothing : {X : Type 0} (j : ℕ) (x : X) → slice_get [] j ≡ Some x → ⊥
    nothing zero x is = cc
    nothing (suc j) x is = cc
EachAfter-at P earlier (y ∷ xs) each zero x is =
    let same : y ≡ x = first y x is in
    subst (λ front. P front x) (sym (append-nil earlier)) (subst (λ z. P earlier z) same each.0)
  where
    first : {X : Type 0} (y x : X) → Some y ≡ Some x → y ≡ x
    first y x is = cc
EachAfter-at P earlier (y ∷ xs) each (suc j) x is =
    subst (λ front. P front x) (append_assoc earlier (y ∷ []) (take j xs)) (EachAfter-at P (earlier ++ y ∷ []) xs each.1 j x is)

pub EachAfter-append : {X : Type 0} (P : List X → X → Type 0) (earlier xs ys : List X) → EachAfter P earlier xs → EachAfter P (earlier ++ xs) ys
    → EachAfter P earlier (xs ++ ys)
EachAfter-append P earlier [] ys hx hy = subst (λ front. EachAfter P front ys) (append-nil earlier) hy
EachAfter-append P earlier (x ∷ xs) ys hx hy = (
  hx.0,
  EachAfter-append P (earlier ++ x ∷ []) xs ys hx.1 (subst (λ front. EachAfter P front ys) (sym (append_assoc earlier (x ∷ []) xs)) hy),
)

pub EachAfter-push : {X : Type 0} (P : List X → X → Type 0) (xs : List X) (x : X) → EachAfter P [] xs → P xs x → EachAfter P [] (xs ++ x ∷ [])
EachAfter-push P xs x hx h = EachAfter-append P [] xs (x ∷ []) hx (h, tt)

pub EachAfter-weaker : {X : Type 0} (P Q : List X → X → Type 0) → ((front : List X) (x : X) → P front x → Q front x) → (earlier xs : List X)
    → EachAfter P earlier xs → EachAfter Q earlier xs
EachAfter-weaker P Q weaker earlier [] each = tt
EachAfter-weaker P Q weaker earlier (x ∷ xs) each = (weaker earlier x each.0, EachAfter-weaker P Q weaker (earlier ++ x ∷ []) xs each.1)

-- A rule that looks only at what passes a test holds, among what passes it, of each element that does.
pub EachAfter-filter : {X : Type 0} (P : List X → X → Type 0) (test : X → Bool)
    → ((front back : List X) (x : X) → test x ≡ true → filter test front ≡ filter test back → P front x → P back x)
    → (earlier front xs : List X) → filter test earlier ≡ filter test front → EachAfter P earlier xs → EachAfter P front (filter test xs)
EachAfter-filter P test looks earlier front [] same each = tt
EachAfter-filter P test looks earlier front (x ∷ xs) same each =
    let then : filter test (earlier ++ x ∷ []) ≡ filter test front ++ filter test (x ∷ []) =
    filter-append test earlier (x ∷ []) ∙ ap (λ ys. ys ++ filter test (x ∷ [])) same in
    elim (cases_Bool (test x)) [
      | inl passes ↦
          let longer : filter test (earlier ++ x ∷ []) ≡ filter test (front ++ x ∷ []) = then ∙ sym (filter-append test front (x ∷ [])) in
          subst (λ ys. EachAfter P front ys) (sym (cond-true (test x) (x ∷ filter test xs) (filter test xs) passes)) (
            looks earlier front x passes same each.0,
            EachAfter-filter P test looks (earlier ++ x ∷ []) (front ++ x ∷ []) xs longer each.1,
          )
      | inr fails ↦
          let as_before : filter test (earlier ++ x ∷ []) ≡ filter test front =
          then ∙ ap (λ ys. filter test front ++ ys) (cond-false (test x) (x ∷ []) [] fails) ∙ append-nil (filter test front) in
          subst (λ ys. EachAfter P front ys) (sym (cond-false (test x) (x ∷ filter test xs) (filter test xs) fails))
          (EachAfter-filter P test looks (earlier ++ x ∷ []) front xs as_before each.1)
    ]
