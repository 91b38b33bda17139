use Rattle.std.proofs.Common.{◌≡◌, ◌+◌, ◌-◌, ◌<◌, ℕ, List, length, take, drop, ap, refl, ◌∙◌, arith}
use Rattle.std.proofs.lemmas.List.{take_rest}
use Rattle.seq_io.specs.Front.{line_length}
use Rattle.seq_io.specs.StrictText.{Rest, at_line, behind_line, first_line, line_tokens}
use Rattle.seq_io.proofs.StrictText.{begins_with_LF}
use Rattle.seq_io.proofs.strict_reader.StrictReader.line_end.Goals as goal

pub returns-clause-read : goal.returns-clause-read
unfolding at_line
returns-clause-read c =
    let rest = c.self.inside.rest.now in
    let over : line_length rest ≡ 0 = c.self.invariant.1 c.if-self.false in
    let some : 0 < length rest = omega arith in
    let view : List (List ℕ) → List ℕ → Rest = λ tokens bytes. record { line = c.self.inside.line + 1; tokens = tokens; after = behind_line bytes } in
    let behind : behind_line rest ≡ rest = ap (λ n. drop n rest) over in
    rw (← c.self.view_is) (record {
      tokens_are = rw c.if-self.false refl;
      bytes = drop 1 rest;
      ends = behind ∙ begins_with_LF rest over some;
      next = ap (λ tokens. view tokens (take (length rest - 1) (drop 1 rest))) c.is_line_begun-self-inside.ensures.tokens
          ∙ ap (λ bytes. view (line_tokens (first_line bytes)) bytes) (take_rest rest 1);
    })
