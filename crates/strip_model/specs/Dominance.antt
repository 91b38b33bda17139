-- When one path can stand for another, whatever comes after.
use Rattle.std.specs.Prelude.{◌≡◌, ℕ, zero, suc, ◌<◌, ◌≤◌, true, false, List, length, ℤ, pos, ◌+ℤ◌, ◌*ℤ◌, ◌≤ℤ◌}
use Rattle.gain_curve.specs.Difference.{IsLeastDifference}
use Rattle.strip_model.specs.Directed.{strip_of, has, has_strip}
use Rattle.strip_model.specs.Gain.{area_in, whole_area}
use Rattle.strip_model.specs.Orbit.{Orbit, gain_at}
use Rattle.strip_model.specs.Reach.{needs, reaches, area_reached}
use Rattle.strip_model.specs.Starts.{Place, Root, After, place_after}

-- f at each number below n, added up
abbrev pub int_sum_below : ℕ → (ℕ → ℤ) → ℤ
int_sum_below zero f = pos 0
int_sum_below (suc n) f = int_sum_below n f +ℤ f n

-- both places are after the same directed strip, which starts no later at the first
abbrev pub IsNoLater : Place → Place → Type 0
IsNoLater (After s x) (After t y) = (x ≡ y) × (s ≤ t)
IsNoLater _ _ = ⊥

-- d is the least by which request r gains more with b than with a, over every area that the reach of a may still add to both,
-- for a request of gain 1
abbrev pub IsWorst : Orbit → List ℕ → List ℕ → ℕ → ℤ → Type 0
IsWorst J b a r d = IsLeastDifference (area_in J r b) (area_in J r a) (area_reached J r a) (whole_area J r) d

-- Whatever area the reach of a still adds, b gains no less with it than a: for each request the least difference, and these
-- weighted with the gains add up to at least 0.
pub record GainsNoLess (J : Orbit) (b a : List ℕ) : Type 0 where
  pub worst : ℕ → ℤ
  pub is_worst : (r : ℕ) → r < length J.requests → IsWorst J b a r (worst r)
  pub sum : pos 0 ≤ℤ int_sum_below (length J.requests) (λ r. pos (gain_at J r) *ℤ worst r)

-- The path b dominates the path a, another label path of its side: both end with the same directed strip, which starts no
-- later in b; no strip of b is in the reach of a; both need the same; and b gains no less.
pub record Dominates (J : Orbit) (b a : List ℕ) : Type 0 where
  pub no_later : IsNoLater (place_after J Root b) (place_after J Root a)
  pub apart : (y : ℕ) → reaches J a y ≡ true → has_strip (strip_of y) b ≡ false
  pub same_needs : (z : ℕ) → has z (needs J b) ≡ has z (needs J a)
  pub gains : GainsNoLess J b a
