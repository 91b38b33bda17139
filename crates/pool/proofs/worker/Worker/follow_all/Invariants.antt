use Rattle.std.proofs.Common.{◌≡◌}
use Rattle.pool.proofs.worker.Worker.follow_all.Given as goal

-- the worker's board and weight are as they were
abbrev pub invariant-loop-k : goal.invariant-loop-k
invariant-loop-k g l = l.self ≡ l.fn.self
