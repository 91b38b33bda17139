use Rattle.stereo_twins.proofs.TwinLemmas.{IsOpening}
use Rattle.stereo_twins.proofs.twin_map.TwinMap.open.Given as goal

abbrev pub invariant-loop-x : goal.invariant-loop-x
invariant-loop-x l = IsOpening l.self l.fn.set l.x-iterator l.open
