-- How far apart two shares are, over every area that may still be added to both.
use Rattle.std.specs.Prelude.{◌≡◌, ℕ, ◌+◌, ◌≤◌, nat_lt, if◌then◌else◌, ℤ, pos, ◌-ℤ◌, ◌≤ℤ◌}
use Rattle.gain_curve.specs.Curve.{phi}

-- How far the share of a1 is above that of a2 once the area c is added to both.
abbrev pub difference : (a1 a2 c area : ℕ) → ℤ
difference a1 a2 c area = pos (phi (a1 + c) area) -ℤ pos (phi (a2 + c) area)

-- Some added area up to the room makes the difference d, and none makes it lower.
pub record IsLeastDifference (a1 a2 room area : ℕ) (d : ℤ) : Type 0 where
  pub attained : (c : ℕ) × (c ≤ room) × (difference a1 a2 c area ≡ d)
  pub lowest : (c : ℕ) → c ≤ room → d ≤ℤ difference a1 a2 c area

-- The least difference as a number. The curve is convex, so the difference is least with all the room added where a1 is below
-- a2, and with nothing added where it isn't.
abbrev pub worst : (a1 a2 room area : ℕ) → ℤ
worst a1 a2 room area = difference a1 a2 (if nat_lt a1 a2 then room else 0) area
