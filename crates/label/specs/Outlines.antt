-- What is kept of a label, so that its path isn't looked at again.
use Rattle.std.specs.Prelude.{◌≡◌, ℕ, ◌+◌, ◌*◌, ◌||◌, Bool, List}
use Rattle.label.specs.declared.outline.Outline.{Outline}
use Rattle.strip_model.specs.Directed.{has, has_strip}
use Rattle.strip_model.specs.Gain.{gain_in}
use Rattle.strip_model.specs.Orbit.{Orbit}
use Rattle.strip_model.specs.Reach.{needs, reaches, bound}
use Rattle.strip_model.specs.Side.{Face}
use Rattle.strip_model.specs.Starts.{Root, After, IsInTime, place_after}

-- strip i is in the reach of the path in one of its directions
abbrev pub reaches_strip : Orbit → List ℕ → ℕ → Bool
reaches_strip J path i = reaches J path (2 * i) || reaches J path (2 * i + 1)

-- a path in time, with its strips, its needs and its reach as sets: what its bound depends on
pub record HasBoundSets (J : Orbit) (path visited_set needed_set reach_set : List ℕ) : Type 0 where
  pub in_time : IsInTime J path
  pub visited : (i : ℕ) → has i visited_set ≡ has_strip i path
  pub needed : (z : ℕ) → has z needed_set ≡ has z (needs J path)
  pub reach : (y : ℕ) → has y reach_set ≡ reaches J path y

-- The outline is that of this path on this side: it has the path's last acquisition, its strips, the strips in its reach, its
-- needs, its gain and its bound.
pub record IsOutlineOf (S : Face) (outline : Outline) (path : List ℕ) : Type 0 where
  pub at : place_after S.instance Root path ≡ After outline.start outline.last
  pub visited : (i : ℕ) → has i outline.visited ≡ has_strip i path
  pub reach : (i : ℕ) → has i outline.reach ≡ reaches_strip S.instance path i
  pub needs : (z : ℕ) → has z outline.needs ≡ has z (needs S.instance path)
  pub gain : outline.gain ≡ gain_in S.instance path
  pub bound : outline.bound ≡ bound S.instance path
