-- Counting distinct strips: a sum over them is a sum over the strips below the bound that stand in the list.
use Rattle.std.proofs.Common.{◌≡◌, ℕ, ◌<◌, ◌≤◌, Bool, false, ◌||◌, ◌==◌, if◌then◌else◌, List, [], ◌∷◌, length, sum_by, refl, sym, ◌∙◌, ap, inl, inr, arith}
use Rattle.std.proofs.lemmas.Bool.{cases_eq, cond-true, cond-false, eq-eqb, ne_eqb, or_left}
use Rattle.std.proofs.lemmas.List.Sums.{sum_by-cons}
use Rattle.std.specs.List.{AllByRecursion}
use Rattle.strip_model.proofs.Sums.{sum_below-le-sum_below, sum_below_same, sum_below-zero, sum_below_constant, sum_below_without, sum_by_ones, if_at_most}
use Rattle.strip_model.specs.Directed.{strip_of, has_strip}
use Rattle.strip_model.specs.Gain.{sum_below}
use Rattle.strip_model.specs.Orbit.{Orbit}
use Rattle.strip_model.specs.Plan.{StripsExist, StripsDistinct}

-- a weight of distinct strips below n adds up, over the list, to that of the strips that stand in it
pub sum_by_distinct : (n : ℕ) (w : ℕ → ℕ) (xs : List ℕ) → AllByRecursion (λ x. strip_of x < n) xs → StripsDistinct xs
    → sum_by (λ x. w (strip_of x)) xs ≡ sum_below n (λ i. if has_strip i xs then w i else 0)
sum_by_distinct n w [] below d = sym (sum_below-zero n (λ i. if has_strip i [] then w i else 0) (λ i l. refl))
sum_by_distinct n w (x ∷ xs) below d =
    let s = strip_of x in
    let f : ℕ → ℕ = λ i. if has_strip i (x ∷ xs) then w i else 0 in
    let here : f s ≡ w s = cond-true (has_strip s (x ∷ xs)) (w s) 0 (or_left (s == s) (has_strip s xs) (eq-eqb s s refl)) in
    let others : sum_below n (λ k. if k == s then 0 else f k) ≡ sum_below n (λ i. if has_strip i xs then w i else 0) =
    sum_below_same n (λ k. if k == s then 0 else f k) (λ i. if has_strip i xs then w i else 0)
    (λ k l. at_other k s (has_strip k xs) (w k) (λ e. ap (λ (i : ℕ). has_strip i xs) e ∙ d.0)) in
    omega (arith, sum_by-cons (λ x. w (strip_of x)) x xs, sum_by_distinct n w xs below.1 d.1, sum_below_without n s f below.0, here, others)
  where
    at_other : (k s : ℕ) (b : Bool) (w : ℕ) → (k ≡ s → b ≡ false) → (if k == s then 0 else (if (s == k || b) then w else 0)) ≡ (if b then w else 0)
    at_other k s b w absent =
        elim (cases_eq k s) [
          | inl same ↦ cond-true (k == s) 0 (if (s == k || b) then w else 0) (eq-eqb k s same) ∙ sym (cond-false b w 0 (absent same))
          | inr other ↦ cond-false (k == s) 0 (if (s == k || b) then w else 0) (ne_eqb k s other)
              ∙ ap (λ (t : Bool). if (t || b) then w else 0) (ne_eqb s k (λ e. other (sym e)))
        ]

-- a weight of distinct strips below n adds up to at most that of all strips below n
pub sum_by_distinct-le-sum_below : (n : ℕ) (w : ℕ → ℕ) (xs : List ℕ) → AllByRecursion (λ x. strip_of x < n) xs → StripsDistinct xs
    → sum_by (λ x. w (strip_of x)) xs ≤ sum_below n w
sum_by_distinct-le-sum_below n w xs below d =
    rw (sum_by_distinct n w xs below d) (sum_below-le-sum_below n (λ i. if has_strip i xs then w i else 0) w (λ i l. if_at_most (has_strip i xs) (w i)))

-- a list of distinct strips that exist has no more of them than there are
pub length_distinct-le : (J : Orbit) (xs : List ℕ) → StripsExist J xs → StripsDistinct xs → length xs ≤ length J.strips
length_distinct-le J xs exist d =
    let n = length J.strips in
    omega (arith, sum_by_distinct-le-sum_below n (λ i. 1) xs exist d, sum_by_ones xs, sum_below_constant n 1)

-- where one more strip exists that doesn't stand in the list, the list has fewer than there are
pub length_distinct-lt : (J : Orbit) (xs : List ℕ) (x : ℕ) → StripsExist J xs → StripsDistinct xs
    → strip_of x < length J.strips → has_strip (strip_of x) xs ≡ false → length xs < length J.strips
length_distinct-lt J xs x exist d l new = length_distinct-le J (x ∷ xs) (l, exist) (new, d)

-- two lists of distinct strips that exist have the same sum of weights if the same strips stand in them
pub sum_by_same_strips : (J : Orbit) (w : ℕ → ℕ) (xs ys : List ℕ) → StripsExist J xs → StripsDistinct xs → StripsExist J ys → StripsDistinct ys
    → ((i : ℕ) → has_strip i xs ≡ has_strip i ys) → sum_by (λ x. w (strip_of x)) xs ≡ sum_by (λ y. w (strip_of y)) ys
sum_by_same_strips J w xs ys ex dx ey dy same =
    let n = length J.strips in
    sum_by_distinct n w xs ex dx
    ∙ sum_below_same n (λ i. if has_strip i xs then w i else 0) (λ i. if has_strip i ys then w i else 0)
    (λ i l. ap (λ (b : Bool). if b then w i else 0) (same i))
    ∙ sym (sum_by_distinct n w ys ey dy)
