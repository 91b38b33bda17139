use Rattle.std.proofs.Common.{None, false}
use Rattle.pool.specs.Acting.{Works}
use Rattle.pool.proofs.working.work.Given as goal

-- all ids that were given are settled, and all labels that were taken are done with
abbrev pub invariant-loop : goal.invariant-loop
invariant-loop g l = Works l.board None l.fn.pass false l.pass l.tally.spare
