-- Lists of lists: what stands in them, and that none stands twice.
use Rattle.std.proofs.Common.{◌≡◌, ◌≢◌, ℕ, zero, suc, ◌<◌, ◌≤◌, Bool, true, List, [], ◌∷◌, ◌++◌, map, length, drop, All, AllPairs, Contains, filter, flat_map, refl, sym, ◌∙◌, ap, subst, inl, inr, arith}
use Rattle.std.proofs.lemmas.Bool.{cases_Bool, cases_lt, cond-true, cond-false}
use Rattle.std.proofs.lemmas.List.{length-map, get_or-map}
use Rattle.std.proofs.lemmas.List.Elements.{All-nil, All-cons, All-head, All-tail, All-append, All-map, All-weaker, Contains-append_left, Contains-append_right}
use Rattle.std.proofs.lemmas.List.FromFn.{length-range_with_len, get_or-range_with_len, length-map-range_with_len, get_or-map-range_with_len}
use Rattle.std.proofs.lemmas.List.Kept.{AllPairs-cons}
use Rattle.std.specs.List.{AllByRecursion, range_with_len}
use Rattle.strip_model.specs.PathCount.{lists_of, lists_up_to}

-- ---- what stands in a list

Contains-tail : {X : Type 0} (x : X) (xs : List X) (y : X) → Contains xs y → Contains (x ∷ xs) y
Contains-tail x xs y h = Contains-append_right (x ∷ []) xs y h

Contains-map : {X Y : Type 0} (f : X → Y) (xs : List X) (x : X) → Contains xs x → Contains (map f xs) (f x)
Contains-map f xs x h = (h.0, rw (length-map xs f) h.1, get_or-map f xs h.0 x (f x) h.1 ∙ ap f h.2)

Contains-flat_map : {X Y : Type 0} (f : X → List Y) (xs : List X) (x : X) (y : Y) → Contains xs x → Contains (f x) y → Contains (flat_map f xs) y
Contains-flat_map f [] x y h k = absurd (omega (arith, h.1))
Contains-flat_map f (z ∷ xs) x y (zero, l, e) k = Contains-append_left (f z) (flat_map f xs) y (subst (λ w. Contains (f w) y) (sym e) k)
Contains-flat_map f (z ∷ xs) x y (suc i, l, e) k =
    Contains-append_right (f z) (flat_map f xs) y (Contains-flat_map f xs x y (i, omega arith, e) k)

Contains-range_with_len : (m y : ℕ) → y < m → Contains (range_with_len 0 m) y
Contains-range_with_len m y l = (y, rw (length-range_with_len 0 m) l, get_or-range_with_len 0 m y y l ∙ omega arith)

-- what a filter keeps: what passes its test
pub Contains-filter : {X : Type 0} (p : X → Bool) (xs : List X) (x : X) → Contains xs x → p x ≡ true → Contains (filter p xs) x
Contains-filter p [] x h t = absurd (omega (arith, h.1))
Contains-filter p (z ∷ xs) x (zero, l, e) t =
    subst (λ ys. Contains ys x) (sym (cond-true (p z) (z ∷ filter p xs) (filter p xs) (ap p e ∙ t))) (0, omega arith, e)
Contains-filter p (z ∷ xs) x (suc i, l, e) t =
    let rest = Contains-filter p xs x (i, omega arith, e) t in
    elim (cases_Bool (p z)) [
      | inl kept ↦ subst (λ ys. Contains ys x) (sym (cond-true (p z) (z ∷ filter p xs) (filter p xs) kept)) (Contains-tail z (filter p xs) x rest)
      | inr left ↦ subst (λ ys. Contains ys x) (sym (cond-false (p z) (z ∷ filter p xs) (filter p xs) left)) rest
    ]

-- ---- that none stands twice

abbrev AreDifferent : {X : Type 0} → List X → Type 0
AreDifferent xs = AllPairs (λ x y. x ≢ y) xs

AllPairs-tail : {X : Type 0} (R : X → X → Type 0) (x : X) (xs : List X) → AllPairs R (x ∷ xs) → AllPairs R xs
AllPairs-tail R x xs h i j d l k = h (suc i) (suc j) d (omega arith) (omega arith)

AllPairs-head : {X : Type 0} (R : X → X → Type 0) (x : X) (xs : List X) → AllPairs R (x ∷ xs) → All (R x) xs
AllPairs-head R x xs h k d l = h 0 (suc k) d (omega arith) (omega arith)

AllPairs-append : {X : Type 0} (R : X → X → Type 0) (xs ys : List X) → AllPairs R xs → AllPairs R ys → All (λ x. All (R x) ys) xs → AllPairs R (xs ++ ys)
AllPairs-append R [] ys hx hy across = hy
AllPairs-append R (x ∷ xs) ys hx hy across =
    AllPairs-cons R x (xs ++ ys)
    (All-append (R x) xs ys (AllPairs-head R x xs hx) (All-head (λ x. All (R x) ys) x xs across))
    (AllPairs-append R xs ys (AllPairs-tail R x xs hx) hy (All-tail (λ x. All (R x) ys) x xs across))

All-flat_map : {X Y : Type 0} (P : Y → Type 0) (f : X → List Y) (xs : List X) → All (λ x. All P (f x)) xs → All P (flat_map f xs)
All-flat_map P f [] h = All-nil P
All-flat_map P f (x ∷ xs) h =
    All-append P (f x) (flat_map f xs) (All-head (λ x. All P (f x)) x xs h) (All-flat_map P f xs (All-tail (λ x. All P (f x)) x xs h))

-- lists made of different ones, each of different elements that tell of which one they are made
AreDifferent-flat_map : {X Y : Type 0} (f : X → List Y) (of : Y → X) (xs : List X) → AreDifferent xs → ((x : X) → AreDifferent (f x))
    → ((x : X) → All (λ y. of y ≡ x) (f x)) → AreDifferent (flat_map f xs)
AreDifferent-flat_map f of [] h each tells = λ i j d l k. absurd (omega arith)
AreDifferent-flat_map f of (x ∷ xs) h each tells =
    AllPairs-append (λ y z. y ≢ z) (f x) (flat_map f xs) (each x)
    (AreDifferent-flat_map f of xs (AllPairs-tail (λ y z. y ≢ z) x xs h) each tells)
    (All-weaker (λ y. of y ≡ x) (λ y. All (λ z. y ≢ z) (flat_map f xs)) (λ y is.
    All-flat_map (λ z. y ≢ z) f xs
    (All-weaker (λ w. x ≢ w) (λ w. All (λ z. y ≢ z) (f w)) (λ w other.
    All-weaker (λ z. of z ≡ w) (λ z. y ≢ z) (λ z also e. other (sym is ∙ ap of e ∙ also)) (f w) (tells w)) xs
    (AllPairs-head (λ y z. y ≢ z) x xs h))) (f x) (tells x))

-- ---- all lists of numbers below m

-- one more number, each below m, before a list
abbrev longer : ℕ → List ℕ → List (List ℕ)
longer m xs = map (λ y. y ∷ xs) (range_with_len 0 m)

AreDifferent-longer : (m : ℕ) (xs : List ℕ) → AreDifferent (longer m xs)
AreDifferent-longer m xs i j d l k e =
    let j_in : j < m = omega (arith, length-map-range_with_len (λ y. y ∷ xs) 0 m) in
    let heads : i ∷ xs ≡ j ∷ xs =
    sym (get_or-map-range_with_len (λ y. y ∷ xs) 0 m i i d (omega arith) (omega arith)) ∙ e
    ∙ get_or-map-range_with_len (λ y. y ∷ xs) 0 m j j d j_in (omega arith) in
    absurd (omega (arith, first heads))
  where
    first : {i j : ℕ} {xs : List ℕ} → i ∷ xs ≡ j ∷ xs → i ≡ j
    first e = cc

longer-tells : (m : ℕ) (xs : List ℕ) → All (λ ys. drop 1 ys ≡ xs) (longer m xs)
longer-tells m xs = All-map (λ ys. drop 1 ys ≡ xs) (λ y. y ∷ xs) (range_with_len 0 m) (λ k d l. refl)

lists_of-length : (m n : ℕ) → All (λ xs. length xs ≡ n) (lists_of m n)
lists_of-length m zero = All-cons (λ xs. length xs ≡ 0) [] [] refl (All-nil (λ xs. length xs ≡ 0))
lists_of-length m (suc n) =
    All-flat_map (λ ys. length ys ≡ suc n) (longer m) (lists_of m n)
    (All-weaker (λ xs. length xs ≡ n) (λ xs. All (λ ys. length ys ≡ suc n) (longer m xs))
    (λ xs is. All-map (λ ys. length ys ≡ suc n) (λ y. y ∷ xs) (range_with_len 0 m) (λ k d l. ap (λ (k : ℕ). suc k) is))
    (lists_of m n) (lists_of-length m n))

lists_of-different : (m n : ℕ) → AreDifferent (lists_of m n)
lists_of-different m zero = λ i j d l k. absurd (omega arith)
lists_of-different m (suc n) =
    AreDifferent-flat_map (longer m) (λ ys. drop 1 ys) (lists_of m n) (lists_of-different m n) (AreDifferent-longer m) (longer-tells m)

lists_up_to-length : (m n : ℕ) → All (λ xs. length xs ≤ n) (lists_up_to m n)
lists_up_to-length m zero = All-weaker (λ xs. length xs ≡ 0) (λ xs. length xs ≤ 0) (λ xs is. omega arith) (lists_of m 0) (lists_of-length m 0)
lists_up_to-length m (suc n) =
    All-append (λ xs. length xs ≤ suc n) (lists_up_to m n) (lists_of m (suc n))
    (All-weaker (λ xs. length xs ≤ n) (λ xs. length xs ≤ suc n) (λ xs le. omega arith) (lists_up_to m n) (lists_up_to-length m n))
    (All-weaker (λ xs. length xs ≡ suc n) (λ xs. length xs ≤ suc n) (λ xs is. omega arith) (lists_of m (suc n)) (lists_of-length m (suc n)))

-- no list stands twice among all lists of at most n numbers below m
pub lists_up_to-different : (m n : ℕ) → AllPairs (λ xs ys. xs ≢ ys) (lists_up_to m n)
lists_up_to-different m zero = lists_of-different m 0
lists_up_to-different m (suc n) =
    AllPairs-append (λ xs ys. xs ≢ ys) (lists_up_to m n) (lists_of m (suc n)) (lists_up_to-different m n) (lists_of-different m (suc n))
    (All-weaker (λ xs. length xs ≤ n) (λ xs. All (λ ys. xs ≢ ys) (lists_of m (suc n))) (λ xs le.
    All-weaker (λ ys. length ys ≡ suc n) (λ ys. xs ≢ ys) (λ ys is e. absurd (omega (arith, le, is, ap length e))) (lists_of m (suc n))
    (lists_of-length m (suc n))) (lists_up_to m n) (lists_up_to-length m n))

lists_of-all : (m : ℕ) (xs : List ℕ) → AllByRecursion (λ x. x < m) xs → Contains (lists_of m (length xs)) xs
lists_of-all m [] below = (0, omega arith, refl)
lists_of-all m (x ∷ xs) below =
    Contains-flat_map (longer m) (lists_of m (length xs)) xs (x ∷ xs) (lists_of-all m xs below.1)
    (Contains-map (λ y. y ∷ xs) (range_with_len 0 m) x (Contains-range_with_len m x below.0))

-- each list of at most n numbers below m stands among them
pub lists_up_to-all : (m n : ℕ) (xs : List ℕ) → AllByRecursion (λ x. x < m) xs → length xs ≤ n → Contains (lists_up_to m n) xs
lists_up_to-all m zero [] below few = (0, omega arith, refl)
lists_up_to-all m zero (x ∷ xs) below few = absurd (omega arith)
lists_up_to-all m (suc n) xs below few =
    elim (cases_lt n (length xs)) [
      | inl most ↦ let e : length xs ≡ suc n = omega arith in
          Contains-append_right (lists_up_to m n) (lists_of m (suc n)) xs (subst (λ (k : ℕ). Contains (lists_of m k) xs) e (lists_of-all m xs below))
      | inr fewer ↦ Contains-append_left (lists_up_to m n) (lists_of m (suc n)) xs (lists_up_to-all m n xs below fewer)
    ]
