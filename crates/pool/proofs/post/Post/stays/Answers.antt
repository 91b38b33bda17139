use Rattle.std.proofs.Common.{None}
use Rattle.pool.proofs.Asked.{acts_asked, stopped_acts}
use Rattle.pool.proofs.CutFacts.{cut_done, cut_gone, cut_higher, cut_spent}
use Rattle.pool.proofs.post.Post.stays.Goals as goal

pub returns-in_err-ask : goal.returns-in_err-ask
returns-in_err-ask g c =
    stopped_acts c.args.self.now.board.now None c.args.pass.now c.args.tally.now.spare c.ask.new.tally.spare c.ask.ensures.spare

pub returns-in-Ok-Higher : goal.returns-in-Ok-Higher
returns-in-Ok-Higher g c =
    let b = c.args.self.now.board.now in
    acts_asked b None c.args.pass.now c.cut.new.pass c.args.tally.now.spare c.ask.new.tally.spare c.ask.ensures.spare
    (cut_higher b None c.args.pass.now c.cut.new.pass c.args.id c.args.tally.now.spare c.in-Ok-Higher.field-0-0 (rw c.in-Ok-Higher.field-0-is at c.in-Ok-Higher.ensures))

pub returns-in-Ok-Done : goal.returns-in-Ok-Done
returns-in-Ok-Done g c =
    let b = c.args.self.now.board.now in
    acts_asked b None c.args.pass.now c.cut.new.pass c.args.tally.now.spare c.ask.new.tally.spare c.ask.ensures.spare
    (cut_done b None c.args.pass.now c.cut.new.pass c.args.id c.args.tally.now.spare (rw c.in-Ok-Done.field-0-is at c.in-Ok-Done.ensures)).0

pub returns-in-Ok-Gone : goal.returns-in-Ok-Gone
returns-in-Ok-Gone g c =
    let b = c.args.self.now.board.now in
    acts_asked b None c.args.pass.now c.cut.new.pass c.args.tally.now.spare c.ask.new.tally.spare c.ask.ensures.spare
    (cut_gone b None c.args.pass.now c.cut.new.pass c.args.id c.args.tally.now.spare c.in-Ok-Gone.field-0-0 (rw c.in-Ok-Gone.field-0-is at c.in-Ok-Gone.ensures)).0

pub returns-in-Err : goal.returns-in-Err
returns-in-Err g c =
    let b = c.args.self.now.board.now in
    acts_asked b None c.args.pass.now c.cut.new.pass c.args.tally.now.spare c.ask.new.tally.spare c.ask.ensures.spare
    (cut_spent b None c.args.pass.now c.cut.new.pass c.args.id c.args.tally.now.spare c.in-Err.spent c.in-Err.ensures).0
