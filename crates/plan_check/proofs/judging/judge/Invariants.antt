use Rattle.plan_check.specs.Fault.{HasNoFaultBelow}
use Rattle.plan_check.proofs.judging.judge.Given as goal

-- no fault so far
abbrev pub invariant-loop-k : goal.invariant-loop-k
invariant-loop-k l = HasNoFaultBelow l.instance l.plan l.k
