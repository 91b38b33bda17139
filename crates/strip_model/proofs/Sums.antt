-- Sums over the numbers below a bound.
use Rattle.std.proofs.Common.{◌≡◌, ℕ, zero, suc, ◌+◌, ◌*◌, ◌<◌, ◌≤◌, Bool, true, false, ◌==◌, if◌then◌else◌, List, [], ◌∷◌, length, sum_by, get_or, refl, sym, ◌∙◌, ap, inl, inr, arith}
use Rattle.std.proofs.lemmas.Bool.{cases_eq, cases_lt, cond-true, cond-false, eq-eqb, ne_eqb}
use Rattle.std.proofs.lemmas.List.Sums.{sum_by-cons}
use Rattle.strip_model.specs.Gain.{sum_below}

-- a sum of no greater summands is no greater
pub sum_below-le-sum_below : (n : ℕ) (f g : ℕ → ℕ) → ((i : ℕ) → i < n → f i ≤ g i) → sum_below n f ≤ sum_below n g
sum_below-le-sum_below zero f g h = omega arith
sum_below-le-sum_below (suc n) f g h = omega (arith, h n (omega arith), sum_below-le-sum_below n f g (λ i l. h i (omega arith)))

-- a sum of the same summands is the same
pub sum_below_same : (n : ℕ) (f g : ℕ → ℕ) → ((i : ℕ) → i < n → f i ≡ g i) → sum_below n f ≡ sum_below n g
sum_below_same zero f g h = refl
sum_below_same (suc n) f g h = omega (arith, h n (omega arith), sum_below_same n f g (λ i l. h i (omega arith)))

-- summands of 0 add up to 0
pub sum_below-zero : (n : ℕ) (f : ℕ → ℕ) → ((i : ℕ) → i < n → f i ≡ 0) → sum_below n f ≡ 0
sum_below-zero zero f h = refl
sum_below-zero (suc n) f h = omega (arith, h n (omega arith), sum_below-zero n f (λ i l. h i (omega arith)))

-- n equal summands
pub sum_below_constant : (n c : ℕ) → sum_below n (λ i. c) ≡ n * c
sum_below_constant zero c = omega arith
sum_below_constant (suc n) c = omega (arith, sum_below_constant n c)

-- a sum of sums
pub sum_below-add : (n : ℕ) (f g : ℕ → ℕ) → sum_below n (λ i. f i + g i) ≡ sum_below n f + sum_below n g
sum_below-add zero f g = refl
sum_below-add (suc n) f g = omega (arith, sum_below-add n f g)

-- a factor of each summand
pub sum_below_times : (n c : ℕ) (f : ℕ → ℕ) → sum_below n (λ i. c * f i) ≡ c * sum_below n f
sum_below_times zero c f = omega arith
sum_below_times (suc n) c f = omega (arith, sum_below_times n c f)

-- a longer sum is no smaller
pub sum_below_longer : (m n : ℕ) (f : ℕ → ℕ) → m ≤ n → sum_below m f ≤ sum_below n f
sum_below_longer m zero f h = let e : m ≡ 0 = omega arith in rw e (omega arith)
sum_below_longer m (suc n) f h =
    elim (cases_lt m (suc n)) [
      | inl below ↦ omega (arith, sum_below_longer m n f (omega arith))
      | inr above ↦ let e : m ≡ suc n = omega arith in rw e (omega arith)
    ]

-- each summand is within the sum
pub summand-le-sum_below : (n i : ℕ) (f : ℕ → ℕ) → i < n → f i ≤ sum_below n f
summand-le-sum_below n i f h = omega (arith, sum_below_longer (suc i) n f h)

-- one summand taken out of a sum
pub sum_below_without : (n i : ℕ) (f : ℕ → ℕ) → i < n → sum_below n f ≡ f i + sum_below n (λ k. if k == i then 0 else f k)
sum_below_without zero i f h = absurd (omega arith)
sum_below_without (suc n) i f h =
    elim (cases_eq n i) [
      | inl same ↦
          let others : sum_below n f ≡ sum_below n (λ k. if k == i then 0 else f k) =
          sum_below_same n f (λ k. if k == i then 0 else f k) (λ k l. sym (cond-false (k == i) 0 (f k) (ne_eqb k i (λ e. absurd (omega (arith, e, l, same)))))) in
          let gone : (if n == i then 0 else f n) ≡ 0 = cond-true (n == i) 0 (f n) (eq-eqb n i same) in
          omega (arith, others, gone, ap f same)
      | inr other ↦
          let stays : (if n == i then 0 else f n) ≡ f n = cond-false (n == i) 0 (f n) (ne_eqb n i other) in
          omega (arith, stays, sum_below_without n i f (below_other n i h other))
    ]
  where
    below_other : (n i : ℕ) → i < suc n → (n ≡ i → ⊥) → i < n
    below_other n i h other = omega arith

-- the first summand taken out of a sum
pub sum_below_front : (n : ℕ) (f : ℕ → ℕ) → sum_below (suc n) f ≡ f 0 + sum_below n (λ i. f (suc i))
sum_below_front zero f = omega arith
sum_below_front (suc n) f = omega (arith, sum_below_front n f)

-- a sum over a list, by the places of its elements
pub sum_by-sum_below : {X : Type 0} (f : X → ℕ) (xs : List X) (d : X) → sum_by f xs ≡ sum_below (length xs) (λ i. f (get_or xs i d))
sum_by-sum_below f [] d = refl
sum_by-sum_below f (x ∷ xs) d =
    sum_by-cons f x xs
    ∙ ap (λ (n : ℕ). f x + n) (sum_by-sum_below f xs d)
    ∙ sym (sum_below_front (length xs) (λ i. f (get_or (x ∷ xs) i d)))

-- a list has as many elements as there are ones added up for it
pub sum_by_ones : {X : Type 0} (xs : List X) → sum_by (λ x. 1) xs ≡ length xs
sum_by_ones [] = refl
sum_by_ones (x ∷ xs) = omega (arith, sum_by-cons (λ x. 1) x xs, sum_by_ones xs)

-- a number that a test may leave out is at most the number
pub if_at_most : (b : Bool) (w : ℕ) → (if b then w else 0) ≤ w
if_at_most true w = omega arith
if_at_most false w = omega arith

-- the one summand that may not be 0 is the sum at most
pub sum_below_one-le : (n i a : ℕ) → sum_below n (λ r. if i == r then a else 0) ≤ a
sum_below_one-le n i a =
    elim (cases_lt i n) [
      | inl below ↦
          let others : sum_below n (λ k. if k == i then 0 else (if i == k then a else 0)) ≡ 0 =
          sum_below-zero n (λ k. if k == i then 0 else (if i == k then a else 0)) (λ k l. none k i a) in
          omega (arith, sum_below_without n i (λ r. if i == r then a else 0) below, others, if_at_most (i == i) a)
      | inr past ↦
          omega (arith, sum_below-zero n (λ r. if i == r then a else 0) (λ r l. cond-false (i == r) a 0 (ne_eqb i r (λ e. absurd (omega (arith, e, l, past))))))
    ]
  where
    none : (k i a : ℕ) → (if k == i then 0 else (if i == k then a else 0)) ≡ 0
    none k i a =
        elim (cases_eq k i) [
          | inl same ↦ cond-true (k == i) 0 (if i == k then a else 0) (eq-eqb k i same)
          | inr other ↦ cond-false (k == i) 0 (if i == k then a else 0) (ne_eqb k i other) ∙ cond-false (i == k) a 0 (ne_eqb i k (λ e. other (sym e)))
        ]
