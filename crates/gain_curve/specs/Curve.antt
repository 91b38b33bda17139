-- The gain curve, and what every such curve keeps.
use Rattle.std.specs.Prelude.{◌≡◌, ℕ, ◌+◌, ◌-◌, ◌*◌, ◌≤◌, ◌⊎◌, nat_le, if◌then◌else◌}

-- The share of a request's gain, in twentieths times the area: three lines that meet at 4/10 and 7/10 of the area.
unfoldable pub phi : ℕ → ℕ → ℕ
phi a area =
    if nat_le (10 * a) (4 * area) then 5 * a
    else (if nat_le (10 * a) (7 * area) then 20 * a - 6 * area else 40 * a - 20 * area)

-- The value is the greatest at a of the three lines 5 a, 20 a - 6 area and 40 a - 20 area.
pub record IsGreatestLine (a area value : ℕ) : Type 0 where
  pub first : 5 * a ≤ value
  pub second : 20 * a ≤ value + 6 * area
  pub third : 40 * a ≤ value + 20 * area
  pub reached : (value ≡ 5 * a) ⊎ (value + 6 * area ≡ 20 * a) ⊎ (value + 20 * area ≡ 40 * a)

-- More acquired area never earns a smaller share.
abbrev pub NeverFalls : ℕ → Type 0
NeverFalls area = (a b : ℕ) → a ≤ b → phi a area ≤ phi b area

-- The same added area c earns no less where more is acquired already.
abbrev pub IsConvex : ℕ → Type 0
IsConvex area =
    (a b c : ℕ) → a ≤ b → phi (a + c) area + phi b area ≤ phi (b + c) area + phi a area

-- No part of the whole area earns more than its share of the whole gain would be along a straight line.
abbrev pub IsUnderChord : ℕ → Type 0
IsUnderChord area = (a : ℕ) → a ≤ area → phi a area ≤ 20 * a
