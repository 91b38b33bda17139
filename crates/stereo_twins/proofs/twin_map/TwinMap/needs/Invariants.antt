use Rattle.stereo_twins.proofs.TwinLemmas.{IsNeeding}
use Rattle.stereo_twins.proofs.twin_map.TwinMap.needs.Given as goal

abbrev pub invariant-loop-x : goal.invariant-loop-x
invariant-loop-x l = IsNeeding l.self l.fn.lone l.x-iterator l.needs
