-- Label paths: the partial sequences of a side.
use Rattle.std.specs.Prelude.{◌≡◌, ◌≢◌, ℕ, ◌<◌, ◌≤◌, true, false, List, [], length, Some}
use Rattle.strip_model.specs.Directed.{strip_of, direction_of, has, has_strip}
use Rattle.strip_model.specs.Orbit.{late_at, twin_at}
use Rattle.strip_model.specs.Side.{Face, IsWithinCap}
use Rattle.strip_model.specs.Starts.{Root, After, arrive, place_after, IsInTime}
use Rattle.strip_model.specs.Twins.{HasTwinsOneWay}

-- A label path of a side: it isn't empty, its strips exist, are distinct and are in time at earliest starts, twins that both
-- stand in it have one direction, and its last start is within the cap. The empty list is the side's root.
pub record LabelPath (S : Face) (path : List ℕ) : Type 0 where
  pub some : path ≢ []
  pub in_time : IsInTime S.instance path
  pub one_way : HasTwinsOneWay S.instance path
  pub cap : IsWithinCap S.end S (place_after S.instance Root path)

-- When y can come next after the root or a label path: its strip exists and is new, its twin, where it stands in the path,
-- does so in the direction of y, and y at its earliest start is in time and within the cap.
pub record MayExtend (S : Face) (path : List ℕ) (y : ℕ) : Type 0 where
  pub exist : strip_of y < length S.instance.strips
  pub new_strip : has_strip (strip_of y) path ≡ false
  pub agrees : (x : ℕ) → has x path ≡ true → twin_at S.instance (strip_of y) ≡ Some (strip_of x) → direction_of x ≡ direction_of y
  pub in_time : arrive S.instance (place_after S.instance Root path) y ≤ late_at S.instance y
  pub cap : IsWithinCap S.end S (After (arrive S.instance (place_after S.instance Root path) y) y)
