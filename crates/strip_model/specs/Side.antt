-- The two sides from which partial sequences are built, up to the cut.
use Rattle.std.specs.Prelude.{ℕ, ◌+◌, ◌<◌, ◌≤◌, ⊤}
use Rattle.strip_model.specs.Horizon.{horizon_of}
use Rattle.strip_model.specs.Mirror.{mirror_of}
use Rattle.strip_model.specs.Orbit.{Orbit, duration_at}
use Rattle.strip_model.specs.Starts.{Place, Root, After}
use Rattle.strip_model.specs.declared.end.End.{End}
use Rattle.strip_model.specs.declared.end.End.TheVariants.{Forward, Backward}

-- A side: the instance as it is seen from an end of the orbit, that end, the cut, and the horizon of the instance itself,
-- which in general isn't that of its mirror.
pub record Face : Type 0 where
  pub instance : Orbit
  pub end : End
  pub cut : ℕ
  pub horizon : ℕ

-- an instance as it is seen from an end: the instance itself, or its mirror
abbrev pub facing : Orbit → End → Orbit
facing J Forward = J
facing J Backward = mirror_of J

-- the side of an instance at an end, with a cut
abbrev pub face_of : Orbit → ℕ → End → Face
face_of J cut e = record { instance = facing J e; end = e; cut = cut; horizon = horizon_of J }

-- How far a side goes: forward the last acquisition starts by the cut; backward its latest start, in the instance's own
-- time, is after the cut.
abbrev pub IsWithinCap : End → Face → Place → Type 0
IsWithinCap e S Root = ⊤
IsWithinCap Forward S (After s x) = s ≤ S.cut
IsWithinCap Backward S (After s x) = s + duration_at S.instance x + S.cut < S.horizon
