use Rattle.std.proofs.Common.{None}
use Rattle.std.proofs.lemmas.Result.{err_from_is_err_and}
use Rattle.pool.proofs.Acted.{saw}
use Rattle.pool.proofs.Asked.{acts_asked, stopped_acts}
use Rattle.pool.proofs.post.Post.publish.Goals as goal

pub returns-in_err-ask-clause-acts : goal.returns-in_err-ask-clause-acts
returns-in_err-ask-clause-acts g c =
    stopped_acts c.args.self.now.board.now None c.args.pass.now c.args.tally.now.spare c.ask.new.tally.spare c.ask.ensures.spare

pub returns-in_err-ask-clause-ending : goal.returns-in_err-ask-clause-ending
returns-in_err-ask-clause-ending g c =
    let p = err_from_is_err_and c.from_residual.result c.from_residual.ensures.1 in
    rw (p.1, p.2) (c.in_err-ask.ensures.ending c.args.pass.now)

pub returns-then-ne-clause-acts : goal.returns-then-ne-clause-acts
returns-then-ne-clause-acts g c =
    let b = c.args.self.now.board.now in
    acts_asked b None c.args.pass.now c.see-seen.new.pass c.args.tally.now.spare c.ask.new.tally.spare c.ask.ensures.spare
    (saw b None c.args.pass.now c.see-seen.new.pass c.see-seen.result c.args.tally.now.spare c.see-seen.ensures)

pub returns-then-gain-seen-clause-acts : goal.returns-then-gain-seen-clause-acts
returns-then-gain-seen-clause-acts g c =
    let b = c.args.self.now.board.now in
    acts_asked b None c.args.pass.now c.see-seen.new.pass c.args.tally.now.spare c.ask.new.tally.spare c.ask.ensures.spare
    (saw b None c.args.pass.now c.see-seen.new.pass c.see-seen.result c.args.tally.now.spare c.see-seen.ensures)
