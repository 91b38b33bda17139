-- Areas and gains of lists of directed strips, and their bounds.
use Rattle.std.proofs.Common.{◌≡◌, ℕ, ◌+◌, ◌*◌, ◌≤◌, ◌==◌, List, [], ◌∷◌, ◌++◌, reverse, length, sum_by, refl, ap, inl, inr, mul-le-mul, mul-le-mul_left, le_refl, le_trans, arith}
use Rattle.gain_curve.specs.declared.curve.TheConstants.{MAX_AREA}
use Rattle.std.proofs.lemmas.Bool.{cases_lt}
use Rattle.std.proofs.lemmas.Grind.{reverse_onto}
use Rattle.std.proofs.lemmas.List.{get_or_past}
use Rattle.std.proofs.lemmas.List.Sums.{sum_by-cons, sum_by-append, sum_by-le, sum_by-le-sum_by}
use Rattle.std.proofs.Math.Nat.{mul_assoc, mul_left_comm}
use Rattle.strip_model.proofs.Shares.{share_at-rises, share_at-under_chord, gain_with_same, gain_with-rises, gain_with-zero}
use Rattle.strip_model.proofs.Distinct.{sum_by_distinct-le-sum_below, sum_by_same_strips}
use Rattle.strip_model.proofs.Sums.{sum_below-le-sum_below, sum_below_same, sum_below-zero, sum_below-add, sum_below_times, sum_below_one-le, sum_by-sum_below, if_at_most}
use Rattle.strip_model.specs.Directed.{strip_of, has_strip}
use Rattle.strip_model.specs.Gain.{sum_below, area_for, whole_area, area_in, share_at, gain_with, gain_in}
use Rattle.strip_model.specs.IsInstance.{IsInstance}
use Rattle.strip_model.specs.Orbit.{Orbit, no_request, no_strip, gain_at, strip_at}
use Rattle.strip_model.specs.Plan.{StripsExist, StripsDistinct}
use Rattle.strip_model.specs.declared.limits.TheConstants.{MAX_GAIN, MAX_STRIP_AREA, MAX_TOTAL_GAIN}
use Rattle.strip_model.specs.declared.request.Request.{Request}
use Rattle.strip_model.specs.declared.strip.Strip.{Strip}

-- the area in joined lists is that in the one and in the other
pub area_in-append : (J : Orbit) (r : ℕ) (xs ys : List ℕ) → area_in J r (xs ++ ys) ≡ area_in J r xs + area_in J r ys
area_in-append J r xs ys = sum_by-append (λ x. area_for r (strip_at J (strip_of x))) xs ys

-- the area in a list turned round is the same
pub area_in-reverse : (J : Orbit) (r : ℕ) (xs : List ℕ) → area_in J r (reverse xs) ≡ area_in J r xs
area_in-reverse J r [] = refl
area_in-reverse J r (x ∷ xs) =
    let f : ℕ → ℕ = λ x. area_for r (strip_at J (strip_of x)) in
    omega (
      arith,
      ap (λ (ys : List ℕ). sum_by f ys) (reverse_onto xs x []),
      area_in-append J r (reverse xs) (x ∷ []),
      area_in-reverse J r xs,
      sum_by-cons f x xs,
      sum_by-cons f x [],
    )

-- an area in a list of distinct strips is at most the whole
pub area_in-le-whole_area : (J : Orbit) (r : ℕ) (xs : List ℕ) → StripsExist J xs → StripsDistinct xs → area_in J r xs ≤ whole_area J r
area_in-le-whole_area J r xs exist d =
    rw (sum_by-sum_below (area_for r) J.strips no_strip) (sum_by_distinct-le-sum_below (length J.strips) (λ i. area_for r (strip_at J i)) xs exist d)

-- the area depends on the set of strips alone
pub area_in_same_strips : (J : Orbit) (r : ℕ) (xs ys : List ℕ) → StripsExist J xs → StripsDistinct xs → StripsExist J ys → StripsDistinct ys
    → ((i : ℕ) → has_strip i xs ≡ has_strip i ys) → area_in J r xs ≡ area_in J r ys
area_in_same_strips J r xs ys = sum_by_same_strips J (λ i. area_for r (strip_at J i)) xs ys

-- lists that acquire the same area of each request have the same gain
pub gain_in_same_areas : (J : Orbit) (xs ys : List ℕ) → ((r : ℕ) → area_in J r xs ≡ area_in J r ys) → gain_in J xs ≡ gain_in J ys
gain_in_same_areas J xs ys same = gain_with_same J (λ r. area_in J r xs) (λ r. area_in J r ys) (λ r l. same r)

-- the gain depends on the set of strips alone
pub gain_in_same_strips : (J : Orbit) (xs ys : List ℕ) → StripsExist J xs → StripsDistinct xs → StripsExist J ys → StripsDistinct ys
    → ((i : ℕ) → has_strip i xs ≡ has_strip i ys) → gain_in J xs ≡ gain_in J ys
gain_in_same_strips J xs ys ex dx ey dy same = gain_in_same_areas J xs ys (λ r. area_in_same_strips J r xs ys ex dx ey dy same)

-- the gain of a list turned round is the same
pub gain_in-reverse : (J : Orbit) (xs : List ℕ) → gain_in J (reverse xs) ≡ gain_in J xs
gain_in-reverse J xs = gain_in_same_areas J (reverse xs) xs (λ r. area_in-reverse J r xs)

-- nothing acquired gains nothing
pub gain_in-nil : (J : Orbit) → gain_in J [] ≡ 0
gain_in-nil J = gain_with-zero J (λ r. 0) (λ r. refl)

-- more acquired area of each request gains no less
pub gain_in-le-gain_in : (J : Orbit) (xs ys : List ℕ) → ((r : ℕ) → area_in J r xs ≤ area_in J r ys) → gain_in J xs ≤ gain_in J ys
gain_in-le-gain_in J xs ys more = gain_with-rises J (λ r. area_in J r xs) (λ r. area_in J r ys) more

-- the gain never falls when a list goes on
pub gain_in-le-append : (J : Orbit) (xs ys : List ℕ) → gain_in J xs ≤ gain_in J (xs ++ ys)
gain_in-le-append J xs ys = gain_in-le-gain_in J xs (xs ++ ys) (λ r. omega (arith, area_in-append J r xs ys))

-- a strip adds to a request at most its own area
pub area_for-le : (r : ℕ) (s : Strip) → area_for r s ≤ s.area
area_for-le r s = if_at_most (s.request == r) s.area

-- the strips of an instance have no more area than the curve takes
pub sum_by_area-le : (J : Orbit) → IsInstance J → sum_by (λ (s : Strip). s.area) J.strips ≤ MAX_AREA
sum_by_area-le J h =
    omega (
      arith,
      h.limits.few_strips,
      sum_by-le (λ (s : Strip). s.area) MAX_STRIP_AREA J.strips (λ k d l. (h.limits.each_strip k d l).small),
    )

-- no request has more area than the curve takes
pub whole_area-le : (J : Orbit) (r : ℕ) → IsInstance J → whole_area J r ≤ MAX_AREA
whole_area-le J r h = le_trans (sum_by-le-sum_by (area_for r) (λ (s : Strip). s.area) J.strips (area_for-le r)) (sum_by_area-le J h)

-- the areas of requests add up to at most those of the strips, since a strip is of one request
pub sum_below_areas-le : (n : ℕ) (ss : List Strip) → sum_below n (λ r. sum_by (area_for r) ss) ≤ sum_by (λ (s : Strip). s.area) ss
sum_below_areas-le n [] = omega (arith, sum_below-zero n (λ r. 0) (λ r l. refl))
sum_below_areas-le n (s ∷ ss) =
    omega (
      arith,
      sum_below_same n (λ r. sum_by (area_for r) (s ∷ ss)) (λ r. area_for r s + sum_by (area_for r) ss) (λ r l. sum_by-cons (area_for r) s ss),
      sum_below-add n (λ r. area_for r s) (λ r. sum_by (area_for r) ss),
      sum_below_one-le n s.request s.area,
      sum_below_areas-le n ss,
      sum_by-cons (λ (s : Strip). s.area) s ss,
    )

-- no request gains more than the limit; past the end there is none
pub gain_at-le : (J : Orbit) (r : ℕ) → IsInstance J → gain_at J r ≤ MAX_GAIN
gain_at-le J r h =
    elim (cases_lt r (length J.requests)) [
      | inl there ↦ h.limits.gains r no_request there
      | inr past ↦ omega (arith, ap (λ (q : Request). q.gain) (get_or_past J.requests r no_request past))
    ]

-- a request gains at most 20 twentieths of its area at the greatest gain
pub share_at-le : (J : Orbit) (r a : ℕ) → IsInstance J → a ≤ whole_area J r → share_at J r a ≤ MAX_GAIN * (20 * whole_area J r)
share_at-le J r a h within =
    let g = gain_at J r in
    let w = whole_area J r in
    le_trans (share_at-rises J r a w within)
    (le_trans (share_at-under_chord J r w (le_refl w)) (rw (mul_assoc 20 g w) (rw (mul_left_comm MAX_GAIN 20 w) (mul-le-mul_left 20 (mul-le-mul (gain_at-le J r h) (le_refl w))))))

-- the gains of the requests below n add up to at most the greatest total, where no more is acquired of any than its area
pub sum_below_shares-le : (J : Orbit) (n : ℕ) (a : ℕ → ℕ) → IsInstance J → ((r : ℕ) → a r ≤ whole_area J r)
    → sum_below n (λ r. share_at J r (a r)) ≤ MAX_TOTAL_GAIN
sum_below_shares-le J n a h within =
    omega (
      arith,
      sum_below-le-sum_below n (λ r. share_at J r (a r)) (λ r. MAX_GAIN * (20 * whole_area J r)) (λ r l. share_at-le J r (a r) h (within r)),
      sum_below_times n MAX_GAIN (λ r. 20 * whole_area J r),
      sum_below_times n 20 (λ r. whole_area J r),
      sum_below_areas-le n J.strips,
      sum_by_area-le J h,
    )

-- no request gains more than the greatest total
pub share_at-at_most : (J : Orbit) (r a : ℕ) → IsInstance J → a ≤ whole_area J r → share_at J r a ≤ MAX_TOTAL_GAIN
share_at-at_most J r a h within = omega (arith, share_at-le J r a h within, whole_area-le J r h)

-- what all gain is at most the greatest total, where no more is acquired of any request than its area
pub gain_with-le : (J : Orbit) (a : ℕ → ℕ) → IsInstance J → ((r : ℕ) → a r ≤ whole_area J r) → gain_with J a ≤ MAX_TOTAL_GAIN
gain_with-le J a = sum_below_shares-le J (length J.requests) a

-- the gain of the requests below n, all of them or a part, is at most the greatest total
pub sum_below_gain-le : (J : Orbit) (n : ℕ) (xs : List ℕ) → IsInstance J → StripsExist J xs → StripsDistinct xs
    → sum_below n (λ r. share_at J r (area_in J r xs)) ≤ MAX_TOTAL_GAIN
sum_below_gain-le J n xs h exist d = sum_below_shares-le J n (λ r. area_in J r xs) h (λ r. area_in-le-whole_area J r xs exist d)

-- the gain of distinct strips is at most the greatest total
pub gain_in-le : (J : Orbit) (xs : List ℕ) → IsInstance J → StripsExist J xs → StripsDistinct xs → gain_in J xs ≤ MAX_TOTAL_GAIN
gain_in-le J xs = sum_below_gain-le J (length J.requests) xs
