use Rattle.std.proofs.Common.{Bool, None, Some, sym, subst}
use Rattle.std.proofs.lemmas.Result.{err_from_is_err_and}
use Rattle.pool.proofs.Acted.{none_works}
use Rattle.pool.proofs.Asked.{stopped_acts}
use Rattle.pool.proofs.Ending.{on_err}
use Rattle.pool.proofs.Giving.{none_given, given_works, given_last_still, given_settled}
use Rattle.pool.specs.Acting.{Works}
use Rattle.pool.proofs.post.Post.one_of.Goals as goal

pub returns-in_err-ask-clause-refused : goal.returns-in_err-ask-clause-refused
returns-in_err-ask-clause-refused g c =
    on_err c.from_residual.result (
      None,
      tt,
      (stopped_acts c.args.self.now.board.now None c.args.pass.now c.args.tally.now.spare c.ask.new.tally.spare c.ask.ensures.spare).works,
    )

pub returns-in_err-ask-clause-ending : goal.returns-in_err-ask-clause-ending
returns-in_err-ask-clause-ending g c =
    let p = err_from_is_err_and c.from_residual.result c.from_residual.ensures.1 in
    rw (p.1, p.2) (c.in_err-ask.ensures.ending c.args.pass.now)

pub returns-in_err-handle-in-Some-clause-refused : goal.returns-in_err-handle-in-Some-clause-refused
returns-in_err-handle-in-Some-clause-refused g c =
    on_err c.from_residual-in_err-handle-in-Some.result (
      Some c.in-Some.id,
      given_last_still c.args.self.now.board.now c.in-Some.id c.args.pass.now c.next.new.pass c.handle.new.pass c.args.end c.args.tally.now.spare
          c.ask.new.tally.spare c.handle.new.tally.spare c.ask.ensures.spare c.in-Some.ensures c.handle.ensures.acts,
      given_works c.args.self.now.board.now c.in-Some.id c.args.pass.now c.next.new.pass c.handle.new.pass c.args.end c.args.tally.now.spare
          c.ask.new.tally.spare c.handle.new.tally.spare c.ask.ensures.spare c.in-Some.ensures c.handle.ensures.acts,
    )

pub returns-in-None-clause-works : goal.returns-in-None-clause-works
returns-in-None-clause-works g c =
    let b = c.args.self.now.board.now in
    subst (λ (x : Bool). Works b None c.args.pass.now c.args.tally.now.spare c.next.new.pass x) (sym c.ask.ensures.spare)
    (none_works b c.args.pass.now c.next.new.pass c.args.end c.args.tally.now.spare c.in-None.ensures)

pub returns-in-None-clause-empty : goal.returns-in-None-clause-empty
returns-in-None-clause-empty g c = λ is. none_given c.args.pass.now c.next.new.pass c.args.end c.in-None.ensures

pub returns-in_ok-handle-in-Some-clause-works : goal.returns-in_ok-handle-in-Some-clause-works
returns-in_ok-handle-in-Some-clause-works g c =
    given_settled c.args.self.now.board.now c.in-Some.id c.args.pass.now c.next.new.pass c.handle.new.pass c.args.end c.args.tally.now.spare
    c.ask.new.tally.spare c.handle.new.tally.spare c.ask.ensures.spare c.in-Some.ensures c.handle.ensures.acts
    c.in_ok-handle-in-Some.ensures.settled c.in_ok-handle-in-Some.ensures.handles
