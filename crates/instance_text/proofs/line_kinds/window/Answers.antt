use Rattle.std.proofs.Common.{refl}
use Rattle.std.proofs.lemmas.Result.{err_from_is_err_and}
use Rattle.instance_text.proofs.line_kinds.window.Goals as goal

pub returns-in_err-early-clause-refused : goal.returns-in_err-early-clause-refused
returns-in_err-early-clause-refused c =
    let p = err_from_is_err_and c.from_residual.result c.from_residual.ensures.1 in
    rw p.1 (λ more. rw p.2 (rw c.in_err-early.ensures.refused refl))

pub returns-in_err-late-clause-refused : goal.returns-in_err-late-clause-refused
returns-in_err-late-clause-refused c =
    let p = err_from_is_err_and c.from_residual-in_err-late.result c.from_residual-in_err-late.ensures.1 in
    rw p.1 (λ more. rw p.2 (rw (c.in_ok-early.ensures.passes, c.in_err-late.ensures.refused) refl))

pub returns-in_err-duration-clause-refused : goal.returns-in_err-duration-clause-refused
returns-in_err-duration-clause-refused c =
    let p = err_from_is_err_and c.from_residual-in_err-duration.result c.from_residual-in_err-duration.ensures.1 in
    rw p.1 (λ more. rw p.2 (rw (c.in_ok-early.ensures.passes, c.in_ok-late.ensures.passes, c.in_err-duration.ensures.refused) refl))

pub returns-clause-passes : goal.returns-clause-passes
returns-clause-passes c = λ more. rw (c.in_ok-early.ensures.passes, c.in_ok-late.ensures.passes, c.in_ok-duration.ensures.passes) refl
