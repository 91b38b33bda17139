-- Tips of labels, and the law of joins for them.
use Rattle.std.specs.Prelude.{◌≡◌, ℕ, ◌+◌, ◌<◌, ◌≤◌, Bool, ◌&&◌, ◌||◌, false, List, [], length, Option, None, Some, ⊤}
use Rattle.joiner.specs.Halves.{IsHalf}
use Rattle.joiner.specs.declared.tip.Tip.{Tip}
use Rattle.strip_model.specs.Directed.{strip_of, has, has_strip}
use Rattle.strip_model.specs.Gain.{gain_with}
use Rattle.strip_model.specs.Horizon.{horizon_of}
use Rattle.strip_model.specs.Mirror.{mirror_of}
use Rattle.strip_model.specs.Orbit.{Orbit, duration_at, manoeuvre_at}
use Rattle.strip_model.specs.Reach.{needs, is_open, area_where}
use Rattle.strip_model.specs.Side.{facing}
use Rattle.strip_model.specs.Starts.{Root, After, place_after}
use Rattle.strip_model.specs.declared.end.End.{End}
use Rattle.strip_model.specs.declared.end.End.TheVariants.{Forward, Backward}

-- what a path waits for in a join: a forward one the twins that it needs, a backward one its own open directed strips
abbrev pub waits_for : Orbit → End → List ℕ → ℕ → Bool
waits_for J Forward path z = has z (needs J path)
waits_for J Backward path z = is_open (mirror_of J) path z

-- the tip's last directed strip is of a strip, and is acquired within the orbit
pub record IsWithin (J : Orbit) (t : Tip) : Type 0 where
  pub exist : strip_of t.last < length J.strips
  pub over : t.over ≤ horizon_of J

-- the tip of a label path at an end of the instance, whatever the cut
pub record IsTipOf (J : Orbit) (e : End) (path : List ℕ) (t : Tip) : Type 0 where
  pub half : IsHalf (facing J e) path
  pub start : ℕ
  pub at : place_after (facing J e) Root path ≡ After start t.last
  pub within : IsWithin J t
  pub over : t.over ≡ start + duration_at J t.last
  pub strips : (i : ℕ) → has i t.strips ≡ has_strip i path
  pub twins : (z : ℕ) → has z t.twins ≡ waits_for J e path z

-- the tip of a label path, or none for the root
abbrev pub IsTipAt : Orbit → End → List ℕ → Option Tip → Type 0
IsTipAt J e path None = path ≡ []
IsTipAt J e path (Some t) = IsTipOf J e path t

-- what stands in a half, and what it waits for: nothing in a root
abbrev pub strips_at : Option Tip → List ℕ
strips_at None = []
strips_at (Some t) = t.strips

abbrev pub twins_at : Option Tip → List ℕ
twins_at None = []
twins_at (Some t) = t.twins

-- the manoeuvre between two tips has its time; a root leaves time for everything
abbrev pub HasTime : Orbit → Option Tip → Option Tip → Type 0
HasTime J (Some f) (Some b) = f.over + manoeuvre_at J f.last b.last + b.over ≤ horizon_of J
HasTime J _ _ = ⊤

-- the law of joins for a forward tip and a backward one
pub record Meets (J : Orbit) (f b : Option Tip) : Type 0 where
  pub apart : (i : ℕ) → (has i (strips_at f) && has i (strips_at b)) ≡ false
  pub twins : (z : ℕ) → has z (twins_at f) ≡ has z (twins_at b)
  pub in_time : HasTime J f b

-- what the strips of both gain, in twentieths
abbrev pub meet_gain : Orbit → Option Tip → Option Tip → ℕ
meet_gain J f b = gain_with J (λ r. area_where J r (λ i. has i (strips_at f) || has i (strips_at b)))
