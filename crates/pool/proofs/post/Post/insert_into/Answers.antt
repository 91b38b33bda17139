use Rattle.std.proofs.Common.{None}
use Rattle.pool.proofs.Acted.{acts_trans}
use Rattle.pool.proofs.post.Post.insert_into.Goals as goal

pub returns-in_err-id-clause-acts : goal.returns-in_err-id-clause-acts
returns-in_err-id-clause-acts g c =
    acts_trans c.args.self.now.board.now None c.args.pass.now c.draw.new.pass c.insert.new.pass c.args.tally.now.spare c.draw.new.tally.spare
    c.insert.new.tally.spare c.draw.ensures.acts c.insert.ensures.acts

pub returns-in_default-clause-acts : goal.returns-in_default-clause-acts
returns-in_default-clause-acts g c =
    acts_trans c.args.self.now.board.now None c.args.pass.now c.draw.new.pass c.insert.new.pass c.args.tally.now.spare c.draw.new.tally.spare
    c.insert.new.tally.spare c.draw.ensures.acts c.insert.ensures.acts

pub returns-in_err-stays-clause-acts : goal.returns-in_err-stays-clause-acts
returns-in_err-stays-clause-acts g c =
    acts_trans c.args.self.now.board.now None c.args.pass.now c.insert.new.pass c.stays.new.pass c.args.tally.now.spare c.insert.new.tally.spare
    c.stays.new.tally.spare
    (acts_trans c.args.self.now.board.now None c.args.pass.now c.draw.new.pass c.insert.new.pass c.args.tally.now.spare c.draw.new.tally.spare
    c.insert.new.tally.spare c.draw.ensures.acts c.insert.ensures.acts)
    c.stays.ensures

pub returns-in_err-wait-clause-acts : goal.returns-in_err-wait-clause-acts
returns-in_err-wait-clause-acts g c =
    acts_trans c.args.self.now.board.now None c.args.pass.now c.insert.new.pass c.stays.new.pass c.args.tally.now.spare c.insert.new.tally.spare
    c.stays.new.tally.spare
    (acts_trans c.args.self.now.board.now None c.args.pass.now c.draw.new.pass c.insert.new.pass c.args.tally.now.spare c.draw.new.tally.spare
    c.insert.new.tally.spare c.draw.ensures.acts c.insert.ensures.acts)
    c.stays.ensures

pub returns-in_ok-wait-clause-acts : goal.returns-in_ok-wait-clause-acts
returns-in_ok-wait-clause-acts g c =
    acts_trans c.args.self.now.board.now None c.args.pass.now c.insert.new.pass c.stays.new.pass c.args.tally.now.spare c.insert.new.tally.spare
    c.stays.new.tally.spare
    (acts_trans c.args.self.now.board.now None c.args.pass.now c.draw.new.pass c.insert.new.pass c.args.tally.now.spare c.draw.new.tally.spare
    c.insert.new.tally.spare c.draw.ensures.acts c.insert.ensures.acts)
    c.stays.ensures

pub returns-else-branch-clause-acts : goal.returns-else-branch-clause-acts
returns-else-branch-clause-acts g c =
    acts_trans c.args.self.now.board.now None c.args.pass.now c.insert.new.pass c.stays.new.pass c.args.tally.now.spare c.insert.new.tally.spare
    c.stays.new.tally.spare
    (acts_trans c.args.self.now.board.now None c.args.pass.now c.draw.new.pass c.insert.new.pass c.args.tally.now.spare c.draw.new.tally.spare
    c.insert.new.tally.spare c.draw.ensures.acts c.insert.ensures.acts)
    c.stays.ensures
