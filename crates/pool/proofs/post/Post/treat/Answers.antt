use Rattle.std.proofs.Common.{None}
use Rattle.std.proofs.lemmas.Result.{on_ok_weaker}
use Rattle.pool.proofs.Acted.{acts_trans}
use Rattle.pool.proofs.Giving.{done_dead, done_extended}
use Rattle.pool.proofs.SeenStill.{seen_still}
use Rattle.pool.proofs.post.Post.treat.Goals as goal

pub cut-requires-clause-seen : goal.cut-requires-clause-seen
cut-requires-clause-seen g c = seen_still c.args.pass.now c.publish.new.pass c.publish.ensures.acts.works.grows c.args.id c.requires.seen

pub returns-in_err-cut-clause-acts : goal.returns-in_err-cut-clause-acts
returns-in_err-cut-clause-acts g c =
    acts_trans c.args.self.now.board.now None c.args.pass.now c.publish.new.pass c.cut.new.pass c.args.tally.now.spare c.publish.new.tally.spare
    c.cut.new.tally.spare c.publish.ensures.acts c.cut.ensures.acts

pub returns-then-branch-clause-acts : goal.returns-then-branch-clause-acts
returns-then-branch-clause-acts g c =
    acts_trans c.args.self.now.board.now None c.args.pass.now c.publish.new.pass c.cut.new.pass c.args.tally.now.spare c.publish.new.tally.spare
    c.cut.new.tally.spare c.publish.ensures.acts c.cut.ensures.acts

pub returns-then-branch-clause-done : goal.returns-then-branch-clause-done
returns-then-branch-clause-done g c =
    let acts =
    acts_trans c.args.self.now.board.now None c.args.pass.now c.publish.new.pass c.cut.new.pass c.args.tally.now.spare c.publish.new.tally.spare
    c.cut.new.tally.spare c.publish.ensures.acts c.cut.ensures.acts in
    done_dead c.args.self.now.board.now c.args.pass.now c.cut.new.pass acts.works.grows c.args.id c.requires.seen
    (c.in_ok-cut.ensures.dead c.if-branch.true)

pub returns-clause-acts : goal.returns-clause-acts
returns-clause-acts g c =
    acts_trans c.args.self.now.board.now None c.args.pass.now c.cut.new.pass c.extend_all.new.pass c.args.tally.now.spare c.cut.new.tally.spare
    c.extend_all.new.tally.spare
    (acts_trans c.args.self.now.board.now None c.args.pass.now c.publish.new.pass c.cut.new.pass c.args.tally.now.spare c.publish.new.tally.spare
    c.cut.new.tally.spare c.publish.ensures.acts c.cut.ensures.acts)
    c.extend_all.ensures.acts

pub returns-clause-done : goal.returns-clause-done
returns-clause-done g c =
    let acts =
    acts_trans c.args.self.now.board.now None c.args.pass.now c.cut.new.pass c.extend_all.new.pass c.args.tally.now.spare c.cut.new.tally.spare
    c.extend_all.new.tally.spare
    (acts_trans c.args.self.now.board.now None c.args.pass.now c.publish.new.pass c.cut.new.pass c.args.tally.now.spare c.publish.new.tally.spare
    c.cut.new.tally.spare c.publish.ensures.acts c.cut.ensures.acts)
    c.extend_all.ensures.acts in
    on_ok_weaker c.extend_all.result
    (done_extended c.args.self.now.board.now c.args.pass.now c.extend_all.new.pass acts.works.grows c.args.id c.args.label.now.end
    c.args.label.now.path.items c.requires.seen c.requires.end c.requires.path)
    c.extend_all.ensures.extended
