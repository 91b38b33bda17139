use Rattle.std.proofs.Common.{◌≡◌, None, sym, ap, ◌∙◌}
use Rattle.std.proofs.lemmas.Result.{err_from_is_err_and}
use Rattle.board.specs.Passes.{BoardName}
use Rattle.plan_check.specs.Publication.{Publication}
use Rattle.pool.proofs.Acted.{acts_self, offered}
use Rattle.pool.proofs.Asked.{acts_asked, stopped_acts}
use Rattle.pool.proofs.post.Post.offer.Goals as goal

pub returns-in_err-plan-clause-acts : goal.returns-in_err-plan-clause-acts
returns-in_err-plan-clause-acts g c = acts_self c.args.self.now.board.now None c.args.pass.now c.args.tally.now.spare

pub returns-in_default-clause-acts : goal.returns-in_default-clause-acts
returns-in_default-clause-acts g c = acts_self c.args.self.now.board.now None c.args.pass.now c.args.tally.now.spare

pub returns-in_default-new-clause-acts : goal.returns-in_default-new-clause-acts
returns-in_default-new-clause-acts g c = acts_self c.args.self.now.board.now None c.args.pass.now c.args.tally.now.spare

pub returns-in_err-ask-clause-acts : goal.returns-in_err-ask-clause-acts
returns-in_err-ask-clause-acts g c =
    stopped_acts c.args.self.now.board.now None c.args.pass.now c.args.tally.now.spare c.ask.new.tally.spare c.ask.ensures.spare

pub returns-in_err-ask-clause-ending : goal.returns-in_err-ask-clause-ending
returns-in_err-ask-clause-ending g c =
    let p = err_from_is_err_and c.from_residual-in_err-ask.result c.from_residual-in_err-ask.ensures.1 in
    rw (p.1, p.2) (c.in_err-ask.ensures.ending c.args.pass.now)

pub returns-clause-acts : goal.returns-clause-acts
returns-clause-acts g c =
    let b = c.args.self.now.board.now in
    let instance : c.in-Ok.plan.instance ≡ c.args.pass.now.plan.instance =
    ap (λ (x : Publication). x.instance) c.in-Ok.ensures.published ∙ c.instance-instance.ensures.value
    ∙ sym (ap (λ (x : BoardName). x.instance) c.requires.board) in
    acts_asked b None c.args.pass.now c.offer.new.pass c.args.tally.now.spare c.ask.new.tally.spare c.ask.ensures.spare
    (offered b None c.args.pass.now c.offer.new.pass c.in-Ok.plan c.offer.result c.args.tally.now.spare c.offer.ensures instance)
