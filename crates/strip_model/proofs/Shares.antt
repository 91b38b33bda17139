-- What a request gains for an acquired area, and what all gain together. No other file needs to open the curve.
use Rattle.std.proofs.Common.{◌≡◌, ℕ, zero, suc, ◌+◌, ◌*◌, ◌<◌, ◌≤◌, List, length, slice_index_or, ℤ, pos, negsuc, ◌+ℤ◌, ◌-ℤ◌, ◌*ℤ◌, ◌≤ℤ◌, ◌∙◌, ap, ap₂, mul-le-mul_left, mul-zero, arith}
use Rattle.std.proofs.Math.Nat.{mul_assoc, mul_left_comm, mul-add}
use Rattle.gain_curve.proofs.CurveLaws.{phi-rises, phi-convex, phi-zero, phi-under_chord}
use Rattle.gain_curve.specs.Curve.{phi}
use Rattle.gain_curve.specs.Difference.{difference}
use Rattle.std.proofs.lemmas.Int.{ints}
use Rattle.strip_model.proofs.Sums.{sum_below-le-sum_below, sum_below_same, sum_below-zero}
use Rattle.strip_model.specs.Dominance.{int_sum_below}
use Rattle.strip_model.specs.Gain.{sum_below, whole_area, share_at, gain_with}
use Rattle.strip_model.specs.Orbit.{Orbit, no_request, gain_at}
use Rattle.strip_model.specs.declared.request.Request.{Request}

-- more acquired area gains no less
pub share_at-rises : (J : Orbit) (r a b : ℕ) → a ≤ b → share_at J r a ≤ share_at J r b
share_at-rises J r a b more = mul-le-mul_left (gain_at J r) (phi-rises (whole_area J r) a b more)

-- the same added area gains no less where more is acquired already
pub share_at-convex : (J : Orbit) (r a b c : ℕ) → a ≤ b → share_at J r (a + c) + share_at J r b ≤ share_at J r (b + c) + share_at J r a
share_at-convex J r a b c above =
    let g = gain_at J r in
    let p : ℕ → ℕ = λ a. phi a (whole_area J r) in
    omega (
      arith,
      mul-le-mul_left g (phi-convex (whole_area J r) a b c above),
      mul-add g (p (a + c)) (p b),
      mul-add g (p (b + c)) (p a),
    )

-- nothing acquired gains nothing
pub share_at-zero : (J : Orbit) (r : ℕ) → share_at J r 0 ≡ 0
share_at-zero J r = ap (λ (v : ℕ). gain_at J r * v) (phi-zero (whole_area J r)) ∙ mul-zero (gain_at J r)

-- a part of the area gains at most its share of the whole gain along a straight line
pub share_at-under_chord : (J : Orbit) (r a : ℕ) → a ≤ whole_area J r → share_at J r a ≤ 20 * gain_at J r * a
share_at-under_chord J r a within =
    let g = gain_at J r in
    omega (arith, mul-le-mul_left g (phi-under_chord (whole_area J r) a within), mul_left_comm g 20 a, mul_assoc 20 g a)

-- the same areas gain the same
pub gain_with_same : (J : Orbit) (a b : ℕ → ℕ) → ((r : ℕ) → r < length J.requests → a r ≡ b r) → gain_with J a ≡ gain_with J b
gain_with_same J a b same =
    sum_below_same (length J.requests) (λ r. share_at J r (a r)) (λ r. share_at J r (b r)) (λ r l. ap (λ (v : ℕ). share_at J r v) (same r l))

-- more acquired area of each request gains no less
pub gain_with-rises : (J : Orbit) (a b : ℕ → ℕ) → ((r : ℕ) → a r ≤ b r) → gain_with J a ≤ gain_with J b
gain_with-rises J a b more =
    sum_below-le-sum_below (length J.requests) (λ r. share_at J r (a r)) (λ r. share_at J r (b r)) (λ r l. share_at-rises J r (a r) (b r) (more r))

-- nothing acquired of any request gains nothing
pub gain_with-zero : (J : Orbit) (a : ℕ → ℕ) → ((r : ℕ) → a r ≡ 0) → gain_with J a ≡ 0
gain_with-zero J a none =
    sum_below-zero (length J.requests) (λ r. share_at J r (a r)) (λ r l. ap (λ (v : ℕ). share_at J r v) (none r) ∙ share_at-zero J r)

-- The same areas gain the same in an instance with the same requests, each with the same whole area.
pub gain_with-along : (J K : Orbit) (a b : ℕ → ℕ) → K.requests ≡ J.requests → ((r : ℕ) → whole_area K r ≡ whole_area J r)
    → ((r : ℕ) → b r ≡ a r) → gain_with K b ≡ gain_with J a
gain_with-along J K a b requests whole same =
    ap (λ (qs : List Request). sum_below (length qs) (λ r. (slice_index_or qs r no_request).gain * phi (b r) (whole_area K r))) requests
    ∙ sum_below_same (length J.requests) (λ r. gain_at J r * phi (b r) (whole_area K r)) (λ r. share_at J r (a r))
    (λ r l. ap₂ (λ (area whole : ℕ). gain_at J r * phi area whole) (same r) (whole r))

-- a factor of a least difference
times_difference : (g u v : ℕ) (d : ℤ) → d ≤ℤ (pos u -ℤ pos v) → ((pos g *ℤ d) +ℤ pos (g * v)) ≤ℤ pos (g * u)
times_difference g u v (pos k) h =
    let more : k + v ≤ u = omega (arith, ints) in
    omega (arith, ints, mul-le-mul_left g more)
times_difference g u v (negsuc k) h =
    let less : v ≤ u + suc k = omega (arith, ints) in
    omega (arith, ints, mul-le-mul_left g less)

-- For each of the requests below n the shares of two areas differ by no less than d, both with more added. So the one's gain
-- is above the other's by no less than the sum of these, each with the request's gain.
sum_of_differences : (J : Orbit) (n : ℕ) (b a c : ℕ → ℕ) (d : ℕ → ℤ)
    → ((r : ℕ) → r < n → d r ≤ℤ difference (b r) (a r) (c r) (whole_area J r))
    → (int_sum_below n (λ r. pos (gain_at J r) *ℤ d r) +ℤ pos (sum_below n (λ r. share_at J r (a r + c r))))
    ≤ℤ pos (sum_below n (λ r. share_at J r (b r + c r)))
sum_of_differences J zero b a c d h = omega (arith, ints)
sum_of_differences J (suc n) b a c d h =
    omega (
      arith,
      ints,
      sum_of_differences J n b a c d (λ r l. h r (omega arith)),
      times_difference (gain_at J n) (phi (b n + c n) (whole_area J n)) (phi (a n + c n) (whole_area J n)) (d n) (h n (omega arith)),
    )

-- Where the differences, each with the request's gain, add up to at least 0, the one gains no less than the other.
pub gain_with-differences : (J : Orbit) (b a c : ℕ → ℕ) (d : ℕ → ℤ)
    → ((r : ℕ) → r < length J.requests → d r ≤ℤ difference (b r) (a r) (c r) (whole_area J r))
    → pos 0 ≤ℤ int_sum_below (length J.requests) (λ r. pos (gain_at J r) *ℤ d r)
    → gain_with J (λ r. a r + c r) ≤ gain_with J (λ r. b r + c r)
gain_with-differences J b a c d h sum =
    omega (arith, ints, sum, sum_of_differences J (length J.requests) b a c d h)
