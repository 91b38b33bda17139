use Rattle.std.proofs.Common.{arith}
use Rattle.pool.proofs.Crews.{moved, lost}
use Rattle.pool.proofs.worker.move_all.Goals as goal

pub loop-init : goal.loop-init
loop-init c = (λ b here there. (here, there), (let a = c.len-count.ensures in omega arith))

pub loop-preserved : goal.loop-preserved
loop-preserved c = (
  λ b here there.
      moved b c.loop.from.items c.pop.new.self.items c.loop.into.items c.push.new.self.items c.in-Some.lane c.in-Some.ensures.items c.in_ok-push.ensures.items
      (c.loop.invariant.0 b here there),
  (let a = c.in-Some.ensures.len in let d = c.loop.invariant.1 in omega arith),
)

pub returns-in_err-push : goal.returns-in_err-push
returns-in_err-push c =
    λ b here there.
    lost b c.loop.from.items c.pop.new.self.items c.loop.into.items c.push.new.self.items c.in-Some.lane c.in-Some.ensures.items c.in_err-push.ensures.items
    (c.loop.invariant.0 b here there)

pub returns : goal.returns
returns c = c.loop.invariant.0
