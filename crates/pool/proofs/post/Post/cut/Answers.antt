use Rattle.std.proofs.Common.{None}
use Rattle.std.proofs.lemmas.Result.{err_from_is_err_and}
use Rattle.pool.proofs.Acted.{acts_self}
use Rattle.pool.proofs.Asked.{acts_asked, stopped_acts}
use Rattle.pool.proofs.CutFacts.{cut_done, cut_gone, cut_higher, cut_spent}
use Rattle.pool.proofs.post.Post.cut.Goals as goal

pub returns-then-bound-value-clause-acts : goal.returns-then-bound-value-clause-acts
returns-then-bound-value-clause-acts g c = acts_self c.args.self.now.board.now None c.args.pass.now c.args.tally.now.spare

pub returns-in_err-ask-clause-acts : goal.returns-in_err-ask-clause-acts
returns-in_err-ask-clause-acts g c =
    stopped_acts c.args.self.now.board.now None c.args.pass.now c.args.tally.now.spare c.ask.new.tally.spare c.ask.ensures.spare

pub returns-in_err-ask-clause-ending : goal.returns-in_err-ask-clause-ending
returns-in_err-ask-clause-ending g c =
    let p = err_from_is_err_and c.from_residual.result c.from_residual.ensures.1 in
    rw (p.1, p.2) (c.in_err-ask.ensures.ending c.args.pass.now)

pub returns-in-Ok-Done-clause-acts : goal.returns-in-Ok-Done-clause-acts
returns-in-Ok-Done-clause-acts g c =
    let b = c.args.self.now.board.now in
    acts_asked b None c.args.pass.now c.cut.new.pass c.args.tally.now.spare c.ask.new.tally.spare c.ask.ensures.spare
    (cut_done b None c.args.pass.now c.cut.new.pass c.args.id c.args.tally.now.spare (rw c.in-Ok-Done.field-0-is at c.in-Ok-Done.ensures)).0

pub returns-in-Ok-Done-clause-dead : goal.returns-in-Ok-Done-clause-dead
returns-in-Ok-Done-clause-dead g c = λ dead.
    (cut_done c.args.self.now.board.now None c.args.pass.now c.cut.new.pass c.args.id c.args.tally.now.spare (rw c.in-Ok-Done.field-0-is at c.in-Ok-Done.ensures)).1
    c.requires.seen

pub returns-in-Ok-Gone-clause-acts : goal.returns-in-Ok-Gone-clause-acts
returns-in-Ok-Gone-clause-acts g c =
    let b = c.args.self.now.board.now in
    acts_asked b None c.args.pass.now c.cut.new.pass c.args.tally.now.spare c.ask.new.tally.spare c.ask.ensures.spare
    (cut_gone b None c.args.pass.now c.cut.new.pass c.args.id c.args.tally.now.spare c.in-Ok-Gone.field-0-0 (rw c.in-Ok-Gone.field-0-is at c.in-Ok-Gone.ensures)).0

pub returns-in-Ok-Gone-clause-dead : goal.returns-in-Ok-Gone-clause-dead
returns-in-Ok-Gone-clause-dead g c = λ dead.
    (cut_gone c.args.self.now.board.now None c.args.pass.now c.cut.new.pass c.args.id c.args.tally.now.spare c.in-Ok-Gone.field-0-0
    (rw c.in-Ok-Gone.field-0-is at c.in-Ok-Gone.ensures)).1
    c.requires.seen

pub returns-in-Ok-Higher-clause-acts : goal.returns-in-Ok-Higher-clause-acts
returns-in-Ok-Higher-clause-acts g c =
    let b = c.args.self.now.board.now in
    acts_asked b None c.args.pass.now c.cut.new.pass c.args.tally.now.spare c.ask.new.tally.spare c.ask.ensures.spare
    (cut_higher b None c.args.pass.now c.cut.new.pass c.args.id c.args.tally.now.spare c.in-Ok-Higher.field-0-0 (rw c.in-Ok-Higher.field-0-is at c.in-Ok-Higher.ensures))

pub returns-in-Err-clause-acts : goal.returns-in-Err-clause-acts
returns-in-Err-clause-acts g c =
    let b = c.args.self.now.board.now in
    acts_asked b None c.args.pass.now c.cut.new.pass c.args.tally.now.spare c.ask.new.tally.spare c.ask.ensures.spare
    (cut_spent b None c.args.pass.now c.cut.new.pass c.args.id c.args.tally.now.spare c.in-Err.spent c.in-Err.ensures).0
