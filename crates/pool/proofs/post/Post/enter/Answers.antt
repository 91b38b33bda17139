use Rattle.std.proofs.Common.{None}
use Rattle.pool.proofs.Acted.{acts_trans}
use Rattle.pool.proofs.Ending.{on_ok}
use Rattle.pool.proofs.SeenStill.{is_path_seen_still}
use Rattle.pool.proofs.post.Post.enter.Goals as goal

pub returns-in_err-insert-clause-acts : goal.returns-in_err-insert-clause-acts
returns-in_err-insert-clause-acts g c =
    acts_trans c.args.self.now.board.now None c.args.pass.now c.draw.new.pass c.insert.new.pass c.args.tally.now.spare c.draw.new.tally.spare
    c.insert.new.tally.spare c.draw.ensures.acts c.insert.ensures.acts

pub returns-in-None-clause-acts : goal.returns-in-None-clause-acts
returns-in-None-clause-acts g c =
    acts_trans c.args.self.now.board.now None c.args.pass.now c.draw.new.pass c.insert.new.pass c.args.tally.now.spare c.draw.new.tally.spare
    c.insert.new.tally.spare c.draw.ensures.acts c.insert.ensures.acts

pub returns-in-Some-clause-acts : goal.returns-in-Some-clause-acts
returns-in-Some-clause-acts g c =
    acts_trans c.args.self.now.board.now None c.args.pass.now c.insert.new.pass c.push.new.pass c.args.tally.now.spare c.insert.new.tally.spare
    c.push.new.tally.spare
    (acts_trans c.args.self.now.board.now None c.args.pass.now c.draw.new.pass c.insert.new.pass c.args.tally.now.spare c.draw.new.tally.spare
    c.insert.new.tally.spare c.draw.ensures.acts c.insert.ensures.acts)
    c.push.ensures.acts

pub returns-in-Some-clause-there : goal.returns-in-Some-clause-there
returns-in-Some-clause-there g c =
    on_ok c.push.result (is_path_seen_still c.insert.new.pass c.push.new.pass c.push.ensures.acts.works.grows c.args.label.end c.args.label.path.items
    c.in_ok-insert.ensures.there)
