use Rattle.std.proofs.Common.{Bool, None, false, sym, subst}
use Rattle.std.proofs.lemmas.Result.{err_from_is_err_and}
use Rattle.pool.proofs.Asked.{acts_asked, stopped_acts}
use Rattle.pool.proofs.InsertFacts.{inserted_path, insert_present, insert_crowded, insert_memory, insert_spent}
use Rattle.pool.specs.Acting.{Acts}
use Rattle.pool.proofs.post.Post.insert.Goals as goal

pub returns-in_err-ask-clause-acts : goal.returns-in_err-ask-clause-acts
returns-in_err-ask-clause-acts g c =
    stopped_acts c.args.self.now.board.now None c.args.pass.now c.args.tally.now.spare c.ask.new.tally.spare c.ask.ensures.spare

pub returns-in_err-ask-clause-ending : goal.returns-in_err-ask-clause-ending
returns-in_err-ask-clause-ending g c =
    let p = err_from_is_err_and c.from_residual.result c.from_residual.ensures.1 in
    rw (p.1, p.2) (c.in_err-ask.ensures.ending c.args.pass.now)

pub returns-in-Ok-clause-acts : goal.returns-in-Ok-clause-acts
returns-in-Ok-clause-acts g c =
    let b = c.args.self.now.board.now in
    subst (λ (s : Bool). Acts b None c.args.pass.now s c.insert.new.pass false) (sym c.requires.spare)
    (inserted_path b None c.args.pass.now c.insert.new.pass c.args.label.end c.args.label.path.items (c.in-Ok.id, c.in-Ok.inserted) c.in-Ok.ensures).0

pub returns-in-Ok-clause-there : goal.returns-in-Ok-clause-there
returns-in-Ok-clause-there g c =
    (inserted_path c.args.self.now.board.now None c.args.pass.now c.insert.new.pass c.args.label.end c.args.label.path.items (c.in-Ok.id, c.in-Ok.inserted) c.in-Ok.ensures).1

pub returns-in-Err-Present-clause-acts : goal.returns-in-Err-Present-clause-acts
returns-in-Err-Present-clause-acts g c =
    let b = c.args.self.now.board.now in
    acts_asked b None c.args.pass.now c.insert.new.pass c.args.tally.now.spare c.ask.new.tally.spare c.ask.ensures.spare
    (insert_present b None c.args.pass.now c.insert.new.pass c.args.label.end c.args.label.path.items c.in-Err-Present.field-0-0 c.args.tally.now.spare (rw c.in-Err-Present.field-0-is at c.in-Err-Present.ensures)).0

pub returns-in-Err-Crowded-clause-acts : goal.returns-in-Err-Crowded-clause-acts
returns-in-Err-Crowded-clause-acts g c =
    let b = c.args.self.now.board.now in
    acts_asked b None c.args.pass.now c.insert.new.pass c.args.tally.now.spare c.ask.new.tally.spare c.ask.ensures.spare
    (insert_crowded b None c.args.pass.now c.insert.new.pass c.args.label.end c.args.label.path.items c.args.tally.now.spare c.in-Err-Crowded.labels (rw c.in-Err-Crowded.field-0-is at c.in-Err-Crowded.ensures)).0

pub returns-in-Err-Turn-clause-acts : goal.returns-in-Err-Turn-clause-acts
returns-in-Err-Turn-clause-acts g c =
    let b = c.args.self.now.board.now in
    acts_asked b None c.args.pass.now c.insert.new.pass c.args.tally.now.spare c.ask.new.tally.spare c.ask.ensures.spare
    (insert_spent b None c.args.pass.now c.insert.new.pass c.args.label.end c.args.label.path.items c.args.tally.now.spare c.in-Err-Turn.spent (rw c.in-Err-Turn.field-0-is at c.in-Err-Turn.ensures)).0

pub returns-in-Err-Memory-clause-acts : goal.returns-in-Err-Memory-clause-acts
returns-in-Err-Memory-clause-acts g c =
    let b = c.args.self.now.board.now in
    acts_asked b None c.args.pass.now c.insert.new.pass c.args.tally.now.spare c.ask.new.tally.spare c.ask.ensures.spare
    (insert_memory b None c.args.pass.now c.insert.new.pass c.args.label.end c.args.label.path.items c.args.tally.now.spare (rw c.in-Err-Memory.field-0-is at c.in-Err-Memory.ensures))
