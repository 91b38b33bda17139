-- What stands in a list of directed strips, in joined lists and in a list turned round.
use Rattle.std.proofs.Common.{◌≡◌, ℕ, zero, suc, map, get_or, ◌<◌, Bool, true, false, ◌||◌, ◌==◌, List, [], ◌∷◌, ◌++◌, reverse, length, refl, sym, ◌∙◌, ap, ◌⊎◌, inl, inr, subst, true≢false, arith}
use Rattle.std.proofs.lemmas.Bool.{or_cases, or_left, or_right, or_from, or_parts, eqb-true, eq-eqb, ne_eqb, both_ways, false_from_ne_true}
use Rattle.std.proofs.lemmas.Grind.{reverse_onto}
use Rattle.std.proofs.lemmas.List.{map-append}
use Rattle.std.proofs.lemmas.List.Folds.{list_any-append}
use Rattle.std.specs.List.{AllByRecursion, list_any}
use Rattle.strip_model.specs.Directed.{strip_of, has, has_strip}
use Rattle.strip_model.specs.Orbit.{Orbit}
use Rattle.strip_model.specs.Plan.{order_of, StripsExist, StripsDistinct}
use Rattle.strip_model.specs.declared.acquisition.Acquisition.{Acquisition}

-- a directed strip stands in joined lists where it stands in one of them
pub has-append : (y : ℕ) (xs ys : List ℕ) → has y (xs ++ ys) ≡ (has y xs || has y ys)
has-append y xs ys = list_any-append (λ x. x == y) xs ys

-- a strip stands in joined lists where it stands in one of them
pub has_strip-append : (i : ℕ) (xs ys : List ℕ) → has_strip i (xs ++ ys) ≡ (has_strip i xs || has_strip i ys)
has_strip-append i xs ys = list_any-append (λ x. strip_of x == i) xs ys

-- a strip stands where one of its directed strips does
pub has_strip-from_has : (x : ℕ) (xs : List ℕ) → has x xs ≡ true → has_strip (strip_of x) xs ≡ true
has_strip-from_has x [] h = h
has_strip-from_has x (y ∷ ys) h =
    elim (or_cases (y == x) (has x ys) h) [
      | inl e ↦ or_left (strip_of y == strip_of x) (has_strip (strip_of x) ys) (eq-eqb (strip_of y) (strip_of x) (ap (λ (z : ℕ). strip_of z) (eqb-true y x e)))
      | inr t ↦ or_right (strip_of y == strip_of x) (has_strip (strip_of x) ys) (has_strip-from_has x ys t)
    ]

-- a strip that stands in a list does so in some direction
pub has-from_has_strip : (i : ℕ) (xs : List ℕ) → has_strip i xs ≡ true → (x : ℕ) × (has x xs ≡ true) × (strip_of x ≡ i)
has-from_has_strip i [] h = absurd (true≢false (sym h))
has-from_has_strip i (y ∷ ys) h =
    elim (or_cases (strip_of y == i) (has_strip i ys) h) [
      | inl e ↦ (y, or_left (y == y) (has y ys) (eq-eqb y y refl), eqb-true (strip_of y) i e)
      | inr t ↦ let found = has-from_has_strip i ys t in (found.0, or_right (y == found.0) (has found.0 ys) found.1, found.2)
    ]

-- what stands in the first of two lists stands in the joined list
pub has_left : (y : ℕ) (xs ys : List ℕ) → has y xs ≡ true → has y (xs ++ ys) ≡ true
has_left y xs ys h = has-append y xs ys ∙ or_left (has y xs) (has y ys) h

-- what stands in the second of two lists stands in the joined list
pub has_right : (y : ℕ) (xs ys : List ℕ) → has y ys ≡ true → has y (xs ++ ys) ≡ true
has_right y xs ys h = has-append y xs ys ∙ or_right (has y xs) (has y ys) h

-- what stands in a joined list stands in one of the two
pub has_cases : (y : ℕ) (xs ys : List ℕ) → has y (xs ++ ys) ≡ true → (has y xs ≡ true) ⊎ (has y ys ≡ true)
has_cases y xs ys h = or_cases (has y xs) (has y ys) (sym (has-append y xs ys) ∙ h)

-- the first of a list stands in it
pub has_head : (y : ℕ) (ys : List ℕ) → has y (y ∷ ys) ≡ true
has_head y ys = or_left (y == y) (has y ys) (eq-eqb y y refl)

-- what stands in the rest of a list stands in it
pub has_tail : (y x : ℕ) (ys : List ℕ) → has y ys ≡ true → has y (x ∷ ys) ≡ true
has_tail y x ys h = or_right (x == y) (has y ys) h

-- what stands in a list is its first or stands in the rest
pub has_cons_cases : (y x : ℕ) (ys : List ℕ) → has y (x ∷ ys) ≡ true → (y ≡ x) ⊎ (has y ys ≡ true)
has_cons_cases y x ys h = elim (or_cases (x == y) (has y ys) h) [ inl e ↦ inl (sym (eqb-true x y e)) | inr t ↦ inr t ]

-- what stands at a place of a list stands in it
pub has-element : {X : Type 0} (f : X → ℕ) (xs : List X) (i : ℕ) (d : X) → i < length xs → has (f (get_or xs i d)) (map f xs) ≡ true
has-element f [] i d l = absurd (omega arith)
has-element f (x ∷ xs) zero d l = has_head (f x) (map f xs)
has-element f (x ∷ xs) (suc i) d l = has_tail (f (get_or xs i d)) (f x) (map f xs) (has-element f xs i d (omega arith))

or_turned : (a b : Bool) → (a || (b || false)) ≡ (b || a)
or_turned true true = refl
or_turned true false = refl
or_turned false true = refl
or_turned false false = refl

list_any-reverse : (p : ℕ → Bool) (xs : List ℕ) → list_any p (reverse xs) ≡ list_any p xs
list_any-reverse p [] = refl
list_any-reverse p (x ∷ xs) =
    ap (list_any p) (reverse_onto xs x [])
    ∙ list_any-append p (reverse xs) (x ∷ [])
    ∙ or_turned (list_any p (reverse xs)) (p x)
    ∙ ap (λ (b : Bool). p x || b) (list_any-reverse p xs)

-- the same directed strips stand in a list turned round
pub has-reverse : (y : ℕ) (xs : List ℕ) → has y (reverse xs) ≡ has y xs
has-reverse y xs = list_any-reverse (λ x. x == y) xs

-- the same strips stand in a list turned round
pub has_strip-reverse : (i : ℕ) (xs : List ℕ) → has_strip i (reverse xs) ≡ has_strip i xs
has_strip-reverse i xs = list_any-reverse (λ x. strip_of x == i) xs

-- what holds of each element of two lists holds of each of the lists joined
pub AllByRecursion-append : {X : Type 0} (P : X → Type 0) (xs ys : List X) → AllByRecursion P xs → AllByRecursion P ys → AllByRecursion P (xs ++ ys)
AllByRecursion-append P [] ys hx hy = hy
AllByRecursion-append P (x ∷ xs) ys hx hy = (hx.0, AllByRecursion-append P xs ys hx.1 hy)

-- what holds of each element of joined lists holds of each of both
pub AllByRecursion-append_parts : {X : Type 0} (P : X → Type 0) (xs ys : List X) → AllByRecursion P (xs ++ ys) → AllByRecursion P xs × AllByRecursion P ys
AllByRecursion-append_parts P [] ys h = (tt, h)
AllByRecursion-append_parts P (x ∷ xs) ys h =
    let rest = AllByRecursion-append_parts P xs ys h.1 in
    ((h.0, rest.0), rest.1)

-- the strips of joined lists exist if those of both do
pub StripsExist-append : (J : Orbit) (xs ys : List ℕ) → StripsExist J xs → StripsExist J ys → StripsExist J (xs ++ ys)
StripsExist-append J xs ys = AllByRecursion-append (λ x. strip_of x < length J.strips) xs ys

-- the strips of both lists exist if those of the joined lists do
pub StripsExist-append_parts : (J : Orbit) (xs ys : List ℕ) → StripsExist J (xs ++ ys) → StripsExist J xs × StripsExist J ys
StripsExist-append_parts J xs ys = AllByRecursion-append_parts (λ x. strip_of x < length J.strips) xs ys

-- the strips of a list exist with one more that does
pub StripsExist-push : (J : Orbit) (xs : List ℕ) (x : ℕ) → StripsExist J xs → strip_of x < length J.strips → StripsExist J (xs ++ x ∷ [])
StripsExist-push J xs x h l = StripsExist-append J xs (x ∷ []) h (l, tt)

-- a directed strip of a list of strips that exist is of one of them
pub StripsExist-at : (J : Orbit) (xs : List ℕ) (x : ℕ) → StripsExist J xs → has x xs ≡ true → strip_of x < length J.strips
StripsExist-at J [] x h e = absurd (true≢false (sym e))
StripsExist-at J (y ∷ ys) x h e =
    elim (or_cases (y == x) (has x ys) e) [
      | inl same ↦ rw (eqb-true y x same) at h.0
      | inr later ↦ StripsExist-at J ys x h.1 later
    ]

-- the strips of a list turned round exist if those of the list do
pub StripsExist-reverse : (J : Orbit) (xs : List ℕ) → StripsExist J xs → StripsExist J (reverse xs)
StripsExist-reverse J [] h = tt
StripsExist-reverse J (x ∷ xs) h =
    rw (reverse_onto xs x []) (StripsExist-push J (reverse xs) x (StripsExist-reverse J xs h.1) h.0)

-- joined lists have distinct strips if both have, and no strip stands in both
pub StripsDistinct-append : (xs ys : List ℕ) → StripsDistinct xs → StripsDistinct ys
    → ((i : ℕ) → has_strip i xs ≡ true → has_strip i ys ≡ false) → StripsDistinct (xs ++ ys)
StripsDistinct-append [] ys dx dy apart = dy
StripsDistinct-append (x ∷ xs) ys dx dy apart =
    let i = strip_of x in (
      has_strip-append i xs ys ∙ or_from (has_strip i xs) (has_strip i ys) dx.0 (apart i (or_left (i == i) (has_strip i xs) (eq-eqb i i refl))),
      StripsDistinct-append xs ys dx.1 dy (λ j h. apart j (or_right (i == j) (has_strip j xs) h)),
    )

-- both lists have distinct strips, and no strip stands in both, if the joined lists have distinct strips
pub StripsDistinct-append_parts : (xs ys : List ℕ) → StripsDistinct (xs ++ ys)
    → StripsDistinct xs × StripsDistinct ys × ((i : ℕ) → has_strip i xs ≡ true → has_strip i ys ≡ false)
StripsDistinct-append_parts [] ys d = (tt, d, λ i h. absurd (true≢false (sym h)))
StripsDistinct-append_parts (x ∷ xs) ys d =
    let rest = StripsDistinct-append_parts xs ys d.1 in
    let here = or_parts (has_strip (strip_of x) xs) (has_strip (strip_of x) ys) (sym (has_strip-append (strip_of x) xs ys) ∙ d.0) in (
      (here.0, rest.0),
      rest.1,
      λ i h. elim (or_cases (strip_of x == i) (has_strip i xs) h) [
        | inl e ↦ ap (λ (j : ℕ). has_strip j ys) (sym (eqb-true (strip_of x) i e)) ∙ here.1
        | inr t ↦ rest.2 i t
      ],
    )

-- lists whose strips are distinct, none of the one's in the other
pub record Apart (a c : List ℕ) : Type 0 where
  pub left : StripsDistinct a
  pub right : StripsDistinct c
  pub apart : (x : ℕ) → has x c ≡ true → has_strip (strip_of x) a ≡ false
  pub apart_left : (x : ℕ) → has x a ≡ true → has_strip (strip_of x) c ≡ false

-- the two parts of a list of distinct strips are apart
pub Apart-parts : (a c : List ℕ) → StripsDistinct (a ++ c) → Apart a c
Apart-parts a c d =
    let parts = StripsDistinct-append_parts a c d in
    record {
      left = parts.0;
      right = parts.1;
      apart = λ x h. false_from_ne_true (has_strip (strip_of x) a)
          (λ t. both_ways (has_strip (strip_of x) c) (parts.2 (strip_of x) t) (has_strip-from_has x c h));
      apart_left = λ x h. parts.2 (strip_of x) (has_strip-from_has x a h);
    }

-- lists of distinct strips, where no strip of the second stands in the first, are distinct when joined
pub StripsDistinct-joined : (a c : List ℕ) → StripsDistinct a → StripsDistinct c
    → ((x : ℕ) → has x c ≡ true → has_strip (strip_of x) a ≡ false) → StripsDistinct (a ++ c)
StripsDistinct-joined a c da dc apart =
    StripsDistinct-append a c da dc (λ i h. false_from_ne_true (has_strip i c) (λ t.
    let found = has-from_has_strip i c t in
    both_ways (has_strip i a) (ap (λ (j : ℕ). has_strip j a) (sym found.2) ∙ apart found.0 found.1) h))

-- the strips stay distinct with one more that doesn't stand in the list
pub StripsDistinct-push : (xs : List ℕ) (x : ℕ) → StripsDistinct xs → has_strip (strip_of x) xs ≡ false → StripsDistinct (xs ++ x ∷ [])
StripsDistinct-push xs x d new =
    StripsDistinct-append xs (x ∷ []) d (refl, tt)
    (λ i h. or_from (strip_of x == i) false (ne_eqb (strip_of x) i (λ e. true≢false (sym h ∙ ap (λ (j : ℕ). has_strip j xs) (sym e) ∙ new))) refl)

-- the last of distinct strips doesn't stand before its place
pub StripsDistinct-push_parts : (xs : List ℕ) (x : ℕ) → StripsDistinct (xs ++ x ∷ []) → StripsDistinct xs × (has_strip (strip_of x) xs ≡ false)
StripsDistinct-push_parts xs x d =
    let parts = StripsDistinct-append_parts xs (x ∷ []) d in
    let i = strip_of x in
    (parts.0, false_from_ne_true (has_strip i xs) (λ h. both_ways (i == i || false) (parts.2 i h) (or_left (i == i) false (eq-eqb i i refl))))

-- the strips stay distinct in a list turned round
pub StripsDistinct-reverse : (xs : List ℕ) → StripsDistinct xs → StripsDistinct (reverse xs)
StripsDistinct-reverse [] d = tt
StripsDistinct-reverse (x ∷ xs) d =
    rw (reverse_onto xs x [])
    (StripsDistinct-push (reverse xs) x (StripsDistinct-reverse xs d.1) (has_strip-reverse (strip_of x) xs ∙ d.0))

-- of each strip at most one directed strip stands in a list of distinct strips
pub same_from_strip : (xs : List ℕ) (x y : ℕ) → StripsDistinct xs → has x xs ≡ true → has y xs ≡ true → strip_of x ≡ strip_of y → x ≡ y
same_from_strip [] x y d hx hy e = absurd (true≢false (sym hx))
same_from_strip (z ∷ zs) x y d hx hy e =
    elim (or_cases (z == x) (has x zs) hx) [
      | inl zx ↦ elim (or_cases (z == y) (has y zs) hy) [
        | inl zy ↦ sym (eqb-true z x zx) ∙ eqb-true z y zy
        | inr ty ↦ absurd (both_ways (has_strip (strip_of z) zs) d.0
            (subst (λ (i : ℕ). has_strip i zs ≡ true) (sym e ∙ sym (ap (λ (k : ℕ). strip_of k) (eqb-true z x zx))) (has_strip-from_has y zs ty)))
      ]
      | inr tx ↦ elim (or_cases (z == y) (has y zs) hy) [
        | inl zy ↦ absurd (both_ways (has_strip (strip_of z) zs) d.0
            (subst (λ (i : ℕ). has_strip i zs ≡ true) (e ∙ sym (ap (λ (k : ℕ). strip_of k) (eqb-true z y zy))) (has_strip-from_has x zs tx)))
        | inr ty ↦ same_from_strip zs x y d.1 tx ty e
      ]
    ]

-- the order of joined plans
pub order_of-append : (plan other : List Acquisition) → order_of (plan ++ other) ≡ order_of plan ++ order_of other
order_of-append plan other = map-append (λ (a : Acquisition). a.at) plan other
