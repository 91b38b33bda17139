use Rattle.std.proofs.Common.{◌∙◌}
use Rattle.pool.proofs.Crews.{order_at}
use Rattle.pool.proofs.worker.Worker.follow_all.Goals as goal

pub follow_at-requires : goal.follow_at-requires
follow_at-requires g c = order_at c.args.self.now.board c.loop-k.self.board c.args.order.now (λ i. (c.loop-k.invariant i).board) c.requires

pub loop-k-preserved : goal.loop-k-preserved
loop-k-preserved g c = c.follow_at.ensures ∙ c.loop-k.invariant

pub returns-in_err-follow_at : goal.returns-in_err-follow_at
returns-in_err-follow_at g c = c.follow_at.ensures ∙ c.loop-k.invariant
