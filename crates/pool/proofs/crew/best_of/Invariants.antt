use Rattle.std.proofs.Common.{◌<◌, length, IfSome}
use Rattle.pool.proofs.crew.best_of.Given as goal

-- there is such a label
abbrev pub invariant-loop-k : goal.invariant-loop-k
invariant-loop-k l = IfSome l.best (λ place. place < length l.labels)
