-- Both sides of one instance, with one cut.
use Rattle.std.specs.Prelude.{◌≡◌, ℕ}
use Rattle.strip_model.specs.Orbit.{Orbit}
use Rattle.strip_model.specs.Side.{Face, face_of}
use Rattle.strip_model.specs.declared.end.End.TheVariants.{Forward, Backward}

-- an instance and the cut of both its sides, in ticks
pub record BothFaces : Type 0 where
  pub instance : Orbit
  pub cut : ℕ

-- what the two sides show of the instance: forward it is seen as it is
abbrev pub both_faces : Face → BothFaces
both_faces forward = record { instance = forward.instance; cut = forward.cut }

-- these are the sides of one instance with one cut
pub record AreSides (forward backward : Face) : Type 0 where
  pub is_forward : forward ≡ face_of forward.instance forward.cut Forward
  pub is_backward : backward ≡ face_of forward.instance forward.cut Backward
