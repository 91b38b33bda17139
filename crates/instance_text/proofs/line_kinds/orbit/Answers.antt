use Rattle.std.proofs.Common.{refl}
use Rattle.std.proofs.lemmas.Result.{err_from_is_err_and}
use Rattle.instance_text.proofs.line_kinds.orbit.Goals as goal

pub returns-in_err-word-clause-refused : goal.returns-in_err-word-clause-refused
returns-in_err-word-clause-refused c =
    let p = err_from_is_err_and c.from_residual-in_err-word.result c.from_residual-in_err-word.ensures.1 in
    rw p.1 (λ more. rw (p.2, c.in_ok-line.ensures.line) (rw c.in_err-word.ensures.refused refl))

pub returns-in_err-number-clause-refused : goal.returns-in_err-number-clause-refused
returns-in_err-number-clause-refused c =
    let p = err_from_is_err_and c.from_residual-in_err-number.result c.from_residual-in_err-number.ensures.1 in
    rw p.1 (λ more. rw (p.2, c.in_ok-line.ensures.line) (rw (c.in_ok-word.ensures.passes, c.in_err-number.ensures.refused) refl))

pub returns-in_err-end-clause-refused : goal.returns-in_err-end-clause-refused
returns-in_err-end-clause-refused c =
    let p = err_from_is_err_and c.from_residual-in_err-end.result c.from_residual-in_err-end.ensures.1 in
    rw p.1 (λ more. rw (p.2, c.in_ok-line.ensures.line) (rw (c.in_ok-word.ensures.passes, c.in_ok-number.ensures.passes, c.in_err-end.ensures.refused) refl))

pub returns-clause-passes : goal.returns-clause-passes
returns-clause-passes c = λ more. rw (c.in_ok-line.ensures.line, c.in_ok-line.ensures.count, c.in_ok-word.ensures.passes, c.in_ok-number.ensures.passes, c.in_ok-end.ensures.passes) refl
