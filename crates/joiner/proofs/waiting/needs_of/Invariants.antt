use Rattle.joiner.proofs.Needed.{IsNeeding}
use Rattle.joiner.proofs.waiting.needs_of.Given as goal

abbrev pub invariant-loop-x : goal.invariant-loop-x
invariant-loop-x l = IsNeeding l.instance l.fn.lone l.x-iterator l.needs
