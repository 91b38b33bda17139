use Rattle.std.proofs.Common.{◌<◌, length}
use Rattle.pool.proofs.crew.idlest_of.Given as goal

-- there is such a worker
abbrev pub invariant-loop-k : goal.invariant-loop-k
invariant-loop-k g l = l.idlest < length l.workers
