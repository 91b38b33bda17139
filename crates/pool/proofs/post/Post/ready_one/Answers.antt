use Rattle.std.proofs.Common.{None}
use Rattle.pool.proofs.Acted.{acts_self}
use Rattle.pool.proofs.post.Post.ready_one.Goals as goal

pub returns-in_err-wait_on-clause-acts : goal.returns-in_err-wait_on-clause-acts
returns-in_err-wait_on-clause-acts g c = acts_self c.args.self.now.board.now None c.args.pass.now c.args.tally.now.spare

pub returns-then-start_of_last-limit-clause-acts : goal.returns-then-start_of_last-limit-clause-acts
returns-then-start_of_last-limit-clause-acts g c = acts_self c.args.self.now.board.now None c.args.pass.now c.args.tally.now.spare
