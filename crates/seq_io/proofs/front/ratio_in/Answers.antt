use Rattle.std.proofs.Common.{◌≡◌, ◌<◌, ◌+◌, ◌^◌, ℕ, drop, decimal, Result, Ok, Err, IfOk, refl, sym, arith}
use Rattle.std.proofs.lemmas.List.{take_rest}
use Rattle.std.specs.Cmp.Lexicographic.{same_text}
use Rattle.seq_io.specs.declared.line_fault.LineFault.{LineFault}
use Rattle.seq_io.proofs.FrontTokens.{no_unit, ratio-parts}
use Rattle.seq_io.proofs.front.ratio_in.Goals as goal

pub returns-in_default-clause-fault : goal.returns-in_default-clause-fault
returns-in_default-clause-fault c =
    let small : c.args.unit < 2 ^ 64 = omega arith in
    rw (no_unit c.args.token.now c.args.unit small (sym c.in_default.ensures)) refl

pub returns-clause-number : goal.returns-clause-number
returns-clause-number c =
    let token = c.args.token.now in
    let slash = c.in-Some.slash in
    let unit : drop (slash + 1) token ≡ decimal c.args.unit = same_text _ _ (rw (take_rest token (slash + 1)) at c.if-not-is_spelled.ensures) in
    in_all c.number_in.result (λ n front. (front.0, ratio-parts token slash n c.args.unit (sym c.in-Some.ensures) front.1 unit)) c.number_in.ensures.number
  where
    in_all : {P Q : ℕ → Type 0} (r : Result ℕ LineFault) → ((n : ℕ) → P n → Q n) → IfOk r P → IfOk r Q
    in_all (Ok n) f h = f n h
    in_all (Err fault) f h = h
