use Rattle.std.proofs.Common.{Bool, true, None, Ok, Err, sym, subst}
use Rattle.std.proofs.lemmas.Result.{err_from_is_err_and}
use Rattle.pool.proofs.Acted.{acts_self, drew}
use Rattle.pool.proofs.Asked.{acts_asked, stopped_acts}
use Rattle.pool.specs.Acting.{Acts}
use Rattle.pool.proofs.post.Post.draw.Goals as goal

pub returns-then-tally-clause-acts : goal.returns-then-tally-clause-acts
returns-then-tally-clause-acts g c = acts_self c.args.self.now.board.now None c.args.pass.now c.args.tally.now.spare

pub returns-in_err-ask-clause-acts : goal.returns-in_err-ask-clause-acts
returns-in_err-ask-clause-acts g c =
    stopped_acts c.args.self.now.board.now None c.args.pass.now c.args.tally.now.spare c.ask.new.tally.spare c.ask.ensures.spare

pub returns-in_err-ask-clause-ending : goal.returns-in_err-ask-clause-ending
returns-in_err-ask-clause-ending g c =
    let p = err_from_is_err_and c.from_residual.result c.from_residual.ensures.1 in
    rw (p.1, p.2) (c.in_err-ask.ensures.ending c.args.pass.now)

pub returns-in-Ok-clause-acts : goal.returns-in-Ok-clause-acts
returns-in-Ok-clause-acts g c =
    let b = c.args.self.now.board.now in
    subst (λ (s : Bool). Acts b None c.args.pass.now s c.draw.new.pass true) (sym c.if-tally.false)
    (drew b None c.args.pass.now c.draw.new.pass (Ok c.in-Ok.field-0) c.in-Ok.ensures)

pub returns-in-Err-clause-acts : goal.returns-in-Err-clause-acts
returns-in-Err-clause-acts g c =
    let b = c.args.self.now.board.now in
    acts_asked b None c.args.pass.now c.draw.new.pass c.args.tally.now.spare c.ask.new.tally.spare c.ask.ensures.spare
    (subst (λ (s : Bool). Acts b None c.args.pass.now s c.draw.new.pass s) (sym c.if-tally.false)
    (drew b None c.args.pass.now c.draw.new.pass (Err c.in-Err.spent) c.in-Err.ensures))
