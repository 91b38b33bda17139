use Rattle.std.proofs.Common.{Some, inr}
use Rattle.std.proofs.lemmas.Result.{err_from_is_err_and, on_ok_weaker}
use Rattle.pool.proofs.Acted.{acts_trans, acts_loose}
use Rattle.pool.proofs.Asked.{acts_asked, stopped_acts}
use Rattle.pool.proofs.Ending.{on_ok}
use Rattle.pool.proofs.Handled.{handles_tight}
use Rattle.pool.proofs.SeenStill.{seen_still, waits_not_seen_still}
use Rattle.pool.proofs.TakeFacts.{took, took_none, take_memory, take_spent}
use Rattle.pool.proofs.post.Post.handle.Goals as goal

pub returns-in_err-ask-clause-acts : goal.returns-in_err-ask-clause-acts
returns-in_err-ask-clause-acts g c =
    stopped_acts c.args.self.now.board.now (Some c.args.id) c.args.pass.now c.args.tally.now.spare c.ask.new.tally.spare c.ask.ensures.spare

pub returns-in_err-ask-clause-ending : goal.returns-in_err-ask-clause-ending
returns-in_err-ask-clause-ending g c =
    let p = err_from_is_err_and c.from_residual.result c.from_residual.ensures.1 in
    rw (p.1, p.2) (c.in_err-ask.ensures.ending c.args.pass.now)

pub treat-requires-clause-seen : goal.treat-requires-clause-seen
treat-requires-clause-seen g c =
    (took c.args.self.now.board.now c.args.pass.now c.take.new.pass c.args.id c.args.tally.now.spare c.in-Ok-Label.label
    (rw c.in-Ok-Label.field-0-is at c.in-Ok-Label.ensures)).seen

pub treat-requires-clause-path : goal.treat-requires-clause-path
treat-requires-clause-path g c =
    (took c.args.self.now.board.now c.args.pass.now c.take.new.pass c.args.id c.args.tally.now.spare c.in-Ok-Label.label
    (rw c.in-Ok-Label.field-0-is at c.in-Ok-Label.ensures)).path

pub returns-in-Ok-Label-clause-acts : goal.returns-in-Ok-Label-clause-acts
returns-in-Ok-Label-clause-acts g c =
    let b = c.args.self.now.board.now in
    let it =
    (took c.args.self.now.board.now c.args.pass.now c.take.new.pass c.args.id c.args.tally.now.spare c.in-Ok-Label.label
    (rw c.in-Ok-Label.field-0-is at c.in-Ok-Label.ensures)) in
    acts_trans b (Some c.args.id) c.args.pass.now c.take.new.pass c.treat.new.pass c.args.tally.now.spare c.ask.new.tally.spare c.treat.new.tally.spare
    (acts_asked c.args.self.now.board.now (Some c.args.id) c.args.pass.now c.take.new.pass c.args.tally.now.spare c.ask.new.tally.spare c.ask.ensures.spare it.acts)
    (acts_loose b (Some c.args.id) c.take.new.pass c.treat.new.pass c.ask.new.tally.spare c.treat.new.tally.spare c.treat.ensures.acts)

pub returns-in-Ok-Label-clause-settled : goal.returns-in-Ok-Label-clause-settled
returns-in-Ok-Label-clause-settled g c =
    let it =
    (took c.args.self.now.board.now c.args.pass.now c.take.new.pass c.args.id c.args.tally.now.spare c.in-Ok-Label.label
    (rw c.in-Ok-Label.field-0-is at c.in-Ok-Label.ensures)) in
    let grows = c.treat.ensures.acts.works.grows in
    on_ok c.treat.result (inr (
      seen_still c.take.new.pass c.treat.new.pass grows c.args.id it.seen,
      waits_not_seen_still c.take.new.pass c.treat.new.pass grows c.args.id it.seen it.waits_not,
    ))

pub returns-in-Ok-Label-clause-handles : goal.returns-in-Ok-Label-clause-handles
returns-in-Ok-Label-clause-handles g c =
    let b = c.args.self.now.board.now in
    let it =
    (took c.args.self.now.board.now c.args.pass.now c.take.new.pass c.args.id c.args.tally.now.spare c.in-Ok-Label.label
    (rw c.in-Ok-Label.field-0-is at c.in-Ok-Label.ensures)) in
    let grows = c.treat.ensures.acts.works.grows in
    let acts =
    acts_trans b (Some c.args.id) c.args.pass.now c.take.new.pass c.treat.new.pass c.args.tally.now.spare c.ask.new.tally.spare c.treat.new.tally.spare
    (acts_asked c.args.self.now.board.now (Some c.args.id) c.args.pass.now c.take.new.pass c.args.tally.now.spare c.ask.new.tally.spare c.ask.ensures.spare it.acts)
    (acts_loose b (Some c.args.id) c.take.new.pass c.treat.new.pass c.ask.new.tally.spare c.treat.new.tally.spare c.treat.ensures.acts) in
    on_ok_weaker c.treat.result
    (handles_tight b c.args.id c.args.pass.now c.treat.new.pass acts.works.handles (inr (
      seen_still c.take.new.pass c.treat.new.pass grows c.args.id it.seen,
      waits_not_seen_still c.take.new.pass c.treat.new.pass grows c.args.id it.seen it.waits_not,
    )))
    c.treat.ensures.done

pub returns-in-Ok-Gone-clause-acts : goal.returns-in-Ok-Gone-clause-acts
returns-in-Ok-Gone-clause-acts g c =
    let it =
    (took_none c.args.self.now.board.now c.args.pass.now c.take.new.pass c.args.id c.args.tally.now.spare c.in-Ok-Gone.field-0-0
    (rw c.in-Ok-Gone.field-0-is at c.in-Ok-Gone.ensures)) in
    acts_asked c.args.self.now.board.now (Some c.args.id) c.args.pass.now c.take.new.pass c.args.tally.now.spare c.ask.new.tally.spare c.ask.ensures.spare
    (acts_loose c.args.self.now.board.now (Some c.args.id) c.args.pass.now c.take.new.pass c.args.tally.now.spare c.args.tally.now.spare it.0)

pub returns-in-Ok-Gone-clause-settled : goal.returns-in-Ok-Gone-clause-settled
returns-in-Ok-Gone-clause-settled g c =
    (took_none c.args.self.now.board.now c.args.pass.now c.take.new.pass c.args.id c.args.tally.now.spare c.in-Ok-Gone.field-0-0
    (rw c.in-Ok-Gone.field-0-is at c.in-Ok-Gone.ensures)).1

pub returns-in-Ok-Gone-clause-handles : goal.returns-in-Ok-Gone-clause-handles
returns-in-Ok-Gone-clause-handles g c =
    (took_none c.args.self.now.board.now c.args.pass.now c.take.new.pass c.args.id c.args.tally.now.spare c.in-Ok-Gone.field-0-0
    (rw c.in-Ok-Gone.field-0-is at c.in-Ok-Gone.ensures)).0.works.handles

pub returns-in-Err-Turn-clause-acts : goal.returns-in-Err-Turn-clause-acts
returns-in-Err-Turn-clause-acts g c =
    acts_asked c.args.self.now.board.now (Some c.args.id) c.args.pass.now c.take.new.pass c.args.tally.now.spare c.ask.new.tally.spare c.ask.ensures.spare
    (take_spent c.args.self.now.board.now c.args.pass.now c.take.new.pass c.args.id c.args.tally.now.spare (Some c.args.id) c.in-Err-Turn.spent
    (rw c.in-Err-Turn.field-0-is at c.in-Err-Turn.ensures)).0

pub returns-in-Err-Memory-clause-acts : goal.returns-in-Err-Memory-clause-acts
returns-in-Err-Memory-clause-acts g c =
    acts_asked c.args.self.now.board.now (Some c.args.id) c.args.pass.now c.take.new.pass c.args.tally.now.spare c.ask.new.tally.spare c.ask.ensures.spare
    (take_memory c.args.self.now.board.now c.args.pass.now c.take.new.pass c.args.id c.args.tally.now.spare (Some c.args.id)
    (rw c.in-Err-Memory.field-0-is at c.in-Err-Memory.ensures))
