-- The two halves of a joined plan, and the law of when they join.
use Rattle.std.specs.Prelude.{◌≡◌, ℕ, ◌+◌, ◌≤◌, true, false, List, ⊤}
use Rattle.strip_model.specs.Directed.{has, has_strip}
use Rattle.strip_model.specs.Horizon.{horizon_of}
use Rattle.strip_model.specs.Mirror.{mirror_of}
use Rattle.strip_model.specs.Orbit.{Orbit, duration_at, manoeuvre_at}
use Rattle.strip_model.specs.Reach.{needs, is_open}
use Rattle.strip_model.specs.Starts.{Place, Root, After, place_after, IsInTime}
use Rattle.strip_model.specs.Twins.{HasTwinsOneWay}

-- a root or a label path, whatever the cut
pub record IsHalf (J : Orbit) (path : List ℕ) : Type 0 where
  pub in_time : IsInTime J path
  pub one_way : HasTwinsOneWay J path

-- The last acquisition of a forward half, the manoeuvre, and the last of a backward half, which starts so long before the
-- horizon as the second place says, have their time within the orbit. A root leaves time for everything.
abbrev pub LeaveTime : Orbit → Place → Place → Type 0
LeaveTime J (After s x) (After t y) = s + duration_at J x + manoeuvre_at J x y + duration_at J y + t ≤ horizon_of J
LeaveTime J _ _ = ⊤

-- The law of joins: no strip stands in both halves, the twins that the forward half needs are those that are open in the
-- backward one, and there is time between their last acquisitions.
pub record MayJoin (J : Orbit) (f b : List ℕ) : Type 0 where
  pub apart : (i : ℕ) → has_strip i f ≡ true → has_strip i b ≡ false
  pub needs_met : (z : ℕ) → has z (needs J f) ≡ is_open (mirror_of J) b z
  pub in_time : LeaveTime J (place_after J Root f) (place_after (mirror_of J) Root b)
