use Rattle.std.proofs.Common.{◌≡◌, ◌+◌, ◌++◌, ◌∷◌, ℕ, List, ap, sym, ◌∙◌, arith, drop, Ok, Err}
use Rattle.std.proofs.lemmas.List.{take_rest}
use Rattle.seq_io.proofs.Fronts.{cut_at, front-number, none-number}
use Rattle.seq_io.proofs.strict.read_number.Goals as goal

pub returns-in_default-clause-none : goal.returns-in_default-clause-none
returns-in_default-clause-none c = λ n rest within e.
    none-number c.args.text.now rest n c.args.separator (omega (arith, c.ranges.limit)) c.requires (sym c.in_default.ensures) e

pub returns-in-Ok-clause-read : goal.returns-in-Ok-clause-read
returns-in-Ok-clause-read c =
    let text = c.args.text.now in
    let end = c.in-Some.end in
    rw (take_rest text (end + 1)) (cut_at text c.args.separator end (sym c.in-Some.ensures)
    ∙ ap (λ (front : List ℕ). front ++ c.args.separator ∷ drop (end + 1) text) c.in-Ok.ensures.spelling)

pub returns-in-Err-clause-none : goal.returns-in-Err-clause-none
returns-in-Err-clause-none c = λ n rest within e.
    let front = front-number c.args.text.now rest n c.args.separator c.in-Some.end (omega (arith, c.ranges.limit)) c.requires (sym c.in-Some.ensures) e in
    no_error (c.in-Err.ensures.spelled n within front)
  where
    no_error : {A B : Type 0} {a : A} {b : B} → Err b ≡ Ok a → ⊥
    no_error e = cc
