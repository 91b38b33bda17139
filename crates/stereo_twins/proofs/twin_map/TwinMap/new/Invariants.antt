use Rattle.stereo_twins.specs.Refusal.{KeptBelow}
use Rattle.stereo_twins.proofs.twin_map.TwinMap.new.Given as goal

abbrev pub invariant-loop-i : goal.invariant-loop-i
invariant-loop-i l = KeptBelow l.twins l.requests l.i
