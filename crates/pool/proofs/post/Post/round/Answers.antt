use Rattle.std.proofs.Common.{None}
use Rattle.pool.proofs.Acted.{works_trans, works_loose}
use Rattle.pool.proofs.Ending.{on_err}
use Rattle.pool.proofs.Giving.{last_later, none_both}
use Rattle.pool.proofs.post.Post.round.Goals as goal

pub returns-in_err-backward-clause-refused : goal.returns-in_err-backward-clause-refused
returns-in_err-backward-clause-refused g c =
    let b = c.args.self.now.board.now in
    let first = c.in_ok-forward.ensures.works in
    let last = c.in_err-backward.ensures.refused in
    on_err c.from_residual-in_err-backward.result (
      last.0,
      last_later c.args.pass.now c.one_of.new.pass c.one_of-2.new.pass first.grows last.0 last.1,
      works_trans b last.0 c.args.pass.now c.one_of.new.pass c.one_of-2.new.pass c.args.tally.now.spare c.one_of.new.tally.spare
          c.one_of-2.new.tally.spare (works_loose b last.0 c.args.pass.now c.one_of.new.pass c.args.tally.now.spare c.one_of.new.tally.spare first)
          last.2,
    )

pub returns-then-forward-clause-works : goal.returns-then-forward-clause-works
returns-then-forward-clause-works g c =
    works_trans c.args.self.now.board.now None c.args.pass.now c.one_of.new.pass c.one_of-2.new.pass c.args.tally.now.spare c.one_of.new.tally.spare
    c.one_of-2.new.tally.spare c.in_ok-forward.ensures.works c.in_ok-backward.ensures.works

pub returns-else-forward-clause-works : goal.returns-else-forward-clause-works
returns-else-forward-clause-works g c =
    works_trans c.args.self.now.board.now None c.args.pass.now c.one_of.new.pass c.one_of-2.new.pass c.args.tally.now.spare c.one_of.new.tally.spare
    c.one_of-2.new.tally.spare c.in_ok-forward.ensures.works c.in_ok-backward.ensures.works

pub returns-else-forward-clause-empty : goal.returns-else-forward-clause-empty
returns-else-forward-clause-empty g c = λ none.
    none_both c.args.pass.now c.one_of.new.pass c.one_of-2.new.pass (c.in_ok-forward.ensures.empty c.if-forward.false) (c.in_ok-backward.ensures.empty none)
