use Rattle.std.proofs.Common.{None}
use Rattle.pool.proofs.Acted.{acts_self}
use Rattle.pool.proofs.post.Post.plant_one.Goals as goal

pub returns-in_err-start-clause-acts : goal.returns-in_err-start-clause-acts
returns-in_err-start-clause-acts g c = acts_self c.args.self.now.board.now None c.args.pass.now c.args.tally.now.spare

pub returns-in-None-clause-acts : goal.returns-in-None-clause-acts
returns-in-None-clause-acts g c = acts_self c.args.self.now.board.now None c.args.pass.now c.args.tally.now.spare
