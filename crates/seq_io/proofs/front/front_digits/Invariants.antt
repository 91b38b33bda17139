use Rattle.std.proofs.Common.{◌≡◌, true, take}
use Rattle.std.specs.Char.{is_ascii_digit}
use Rattle.std.specs.List.{list_all}
use Rattle.seq_io.specs.Number.{number_value}
use Rattle.seq_io.proofs.front.front_digits.Given as goal

-- the bytes so far are digits, and this is what they are worth
abbrev pub invariant-loop-i : goal.invariant-loop-i
invariant-loop-i l = record {
  digits : list_all is_ascii_digit (take l.i l.bytes) ≡ true;
  value : l.value ≡ number_value (take l.i l.bytes);
}
