-- What sets of strips acquire, gain and are worth.
use Rattle.std.specs.Prelude.{ℕ, ◌*◌, if◌then◌else◌, List, length, ℤ, pos, ◌*ℤ◌, ◌≤ℤ◌, not, ◌&&◌}
use Rattle.gain_curve.specs.Difference.{worst}
use Rattle.strip_model.specs.Directed.{has}
use Rattle.strip_model.specs.Dominance.{int_sum_below}
use Rattle.strip_model.specs.Gain.{sum_below, whole_area, gain_with}
use Rattle.strip_model.specs.Orbit.{Orbit, gain_at, request_at, area_at}
use Rattle.strip_model.specs.Reach.{area_where}

-- the area of request r that the strips of a set acquire
abbrev pub set_area : Orbit → List ℕ → ℕ → ℕ
set_area J set r = area_where J r (λ i. has i set)

-- what the strips of a set gain, in twentieths
abbrev pub set_gain : Orbit → List ℕ → ℕ
set_gain J set = gain_with J (set_area J set)

-- the area of the strips of a set, of whatever requests
abbrev pub area_in_set : Orbit → List ℕ → ℕ
area_in_set J set = sum_below (length J.strips) (λ i. if has i set then area_at J i else 0)

-- a strip at the full price of its request, in twentieths
abbrev pub strip_value : Orbit → ℕ → ℕ
strip_value J i = 20 * gain_at J (request_at J i) * area_at J i

-- The value of a set: each of its strips at the full price of its request. No set gains more, since the curve lies under its
-- chord.
abbrev pub set_value : Orbit → List ℕ → ℕ
set_value J set = sum_below (length J.strips) (λ i. if has i set then strip_value J i else 0)

-- the area of request r of the strips of the reach that stand neither in b nor in a
abbrev pub set_room : Orbit → List ℕ → List ℕ → List ℕ → ℕ → ℕ
set_room J b a reach r = area_where J r (λ i. (has i reach && not (has i b)) && not (has i a))

-- The least by which request r gains more with the strips of b than with those of a, over every area up to the room that is
-- added to both, weighted with the request's gain.
abbrev pub set_difference : Orbit → List ℕ → List ℕ → (ℕ → ℕ) → ℕ → ℤ
set_difference J b a room r = pos (gain_at J r) *ℤ worst (set_area J b r) (set_area J a r) (room r) (whole_area J r)

-- Whatever area of the reach that stands in neither set is added to both, the strips of b gain no less than those of a: the
-- least differences add up to at least 0.
abbrev pub SetGainsNoLess : Orbit → List ℕ → List ℕ → List ℕ → Type 0
SetGainsNoLess J b a reach = pos 0 ≤ℤ int_sum_below (length J.requests) (set_difference J b a (set_room J b a reach))
