-- The gain of a list of directed strips, in twentieths.
use Rattle.std.specs.Prelude.{ℕ, zero, suc, ◌+◌, ◌*◌, ◌==◌, if◌then◌else◌, List, length, sum_by}
use Rattle.gain_curve.specs.Curve.{phi}
use Rattle.strip_model.specs.Directed.{strip_of}
use Rattle.strip_model.specs.Orbit.{Orbit, gain_at, strip_at}
use Rattle.strip_model.specs.declared.strip.Strip.{Strip}

-- f at each number below n, added up
abbrev pub sum_below : ℕ → (ℕ → ℕ) → ℕ
sum_below zero f = 0
sum_below (suc n) f = sum_below n f + f n

-- the area that a strip adds to request r: its own, if it is of that request
abbrev pub area_for : ℕ → Strip → ℕ
area_for r s = if s.request == r then s.area else 0

-- the area of request r: that of all its strips
abbrev pub whole_area : Orbit → ℕ → ℕ
whole_area J r = sum_by (area_for r) J.strips

-- the area of request r that a list of directed strips acquires
abbrev pub area_in : Orbit → ℕ → List ℕ → ℕ
area_in J r xs = sum_by (λ x. area_for r (strip_at J (strip_of x))) xs

-- What request r gains where this much of its area is acquired: its gain times the curve. This is the one place at which
-- the curve enters. A request without strips gains 0.
abbrev pub share_at : Orbit → ℕ → ℕ → ℕ
share_at J r area = gain_at J r * phi area (whole_area J r)

-- what all requests gain together, where so much of the area of each is acquired
abbrev pub gain_with : Orbit → (ℕ → ℕ) → ℕ
gain_with J areas = sum_below (length J.requests) (λ r. share_at J r (areas r))

-- the gain of a list of directed strips
abbrev pub gain_in : Orbit → List ℕ → ℕ
gain_in J xs = gain_with J (λ r. area_in J r xs)
