use Rattle.std.proofs.Common.{◌≡◌, ◌<◌, ◌+◌, ◌++◌, ◌∷◌, [], true, take, get_or, length, sym, arith, refl}
use Rattle.std.specs.Char.{is_ascii_digit}
use Rattle.std.proofs.lemmas.List.{take_more}
use Rattle.std.proofs.lemmas.List.Folds.{list_all-append}
use Rattle.seq_io.proofs.Decimal.{number_value-push}
use Rattle.seq_io.proofs.front.front_digits.Goals as goal

-- one digit more
pub loop-i-preserved : goal.loop-i-preserved
loop-i-preserved c =
    let bytes = c.args.bytes.now in
    let i = c.loop-i.i in
    let inside : i < length bytes = omega arith in
    let more : take (i + 1) bytes ≡ take i bytes ++ get_or bytes i 0 ∷ [] = take_more bytes i 0 inside in
    let digit : is_ascii_digit (get_or bytes i 0) ≡ true = sym c.if-not-is_ascii_digit.ensures.value in record {
      digits = rw (more, list_all-append is_ascii_digit (take i bytes) (get_or bytes i 0 ∷ []), c.loop-i.invariant.digits) (rw digit refl);
      value = rw (more, number_value-push (take i bytes) (get_or bytes i 0)) (omega (arith, c.loop-i.invariant.value, c.from.ensures));
    }
