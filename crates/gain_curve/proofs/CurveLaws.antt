-- What crates above may use of the curve without opening its definition.
use Rattle.std.proofs.Common.{◌≡◌, ℕ, ◌+◌, ◌*◌, ◌≤◌, arith}
use Rattle.std.proofs.lemmas.Bool.Decides.{nat_tests}
use Rattle.gain_curve.specs.Curve.{phi, IsGreatestLine, NeverFalls, IsConvex, IsUnderChord}

-- The curve is the greatest of its three lines.
pub phi-greatest_line : (a area : ℕ) → IsGreatestLine a area (phi a area)
unfolding phi
phi-greatest_line a area = record {
  first = grind (arith, nat_tests);
  second = grind (arith, nat_tests);
  third = grind (arith, nat_tests);
  reached = grind (arith, nat_tests);
}

-- Nothing acquired earns nothing.
pub phi-zero : (area : ℕ) → phi 0 area ≡ 0
unfolding phi
phi-zero area = grind (arith, nat_tests)

-- The whole area earns the whole gain, which is twenty twentieths.
pub phi-whole : (area : ℕ) → phi area area ≡ 20 * area
unfolding phi
phi-whole area = grind (arith, nat_tests)

-- The greatest of the lines never falls, since each line rises.
greatest_line_rises :
    (a b area v w : ℕ) → a ≤ b → IsGreatestLine a area v → IsGreatestLine b area w → v ≤ w
greatest_line_rises a b area v w above at_a at_b = grind arith

-- More acquired area never earns a smaller share.
pub phi-rises : (area : ℕ) → NeverFalls area
phi-rises area a b above =
    greatest_line_rises a b area (phi a area) (phi b area) above
    (phi-greatest_line a area) (phi-greatest_line b area)

-- No part of the whole area earns more than the whole gain.
pub phi-at_most : (a area : ℕ) → a ≤ area → phi a area ≤ 20 * area
phi-at_most a area within = omega (arith, phi-rises area a area within, phi-whole area)

-- The greatest of the lines gains no less by a step from b to b' than by the same step from a to a' below:
-- of the two lines that reach the values at a' and b, the less steep one is taken at the lower place.
greatest_line_convex :
    (a a' b b' area v v' w w' : ℕ) → a ≤ a' → a ≤ b → a' + b ≡ a + b' →
    IsGreatestLine a area v → IsGreatestLine a' area v' →
    IsGreatestLine b area w → IsGreatestLine b' area w' → v' + w ≤ w' + v
greatest_line_convex a a' b b' area v v' w w' forward above same_step at_a at_a' at_b at_b' =
    grind arith

-- Convexity at four places, where `phi-convex` has three and a step.
pub phi-convex_at :
    (a a' b b' area : ℕ) → a ≤ a' → a ≤ b → a' + b ≡ a + b' →
    phi a' area + phi b area ≤ phi b' area + phi a area
phi-convex_at a a' b b' area forward above same_step =
    greatest_line_convex a a' b b' area (phi a area) (phi a' area) (phi b area) (phi b' area)
    forward above same_step (phi-greatest_line a area) (phi-greatest_line a' area)
    (phi-greatest_line b area) (phi-greatest_line b' area)

-- The same added area earns no less where more is acquired already.
pub phi-convex : (area : ℕ) → IsConvex area
phi-convex area a b c above =
    phi-convex_at a (a + c) b (b + c) area (omega arith) above (omega arith)

-- The greatest of the lines lies under the straight line to the whole gain.
greatest_line_under_chord : (a area v : ℕ) → a ≤ area → IsGreatestLine a area v → v ≤ 20 * a
greatest_line_under_chord a area v within at_a = grind arith

-- No part of the whole area earns more than along a straight line.
pub phi-under_chord : (area : ℕ) → IsUnderChord area
phi-under_chord area a within = greatest_line_under_chord a area (phi a area) within (phi-greatest_line a area)
