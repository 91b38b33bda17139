use Rattle.std.proofs.Common.{◌≡◌, map, take}
use Rattle.strip_model.specs.Mirror.{flip_strip}
use Rattle.strip_model.proofs.mirroring.flip_strips.Given as goal

-- the strips so far are flipped
abbrev pub invariant-loop-strip : goal.invariant-loop-strip
invariant-loop-strip l = l.flipped.items ≡ map (flip_strip l.horizon) (take l.strip-index l.strips)
