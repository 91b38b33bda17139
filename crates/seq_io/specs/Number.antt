-- Numbers in decimal, without leading zeros.
use Rattle.std.specs.Prelude.{ℕ, ◌+◌, ◌-◌, ◌*◌, ◌^◌, ◌==◌, Bool, false, if◌then◌else◌, nat_le, IsTrue, List, [], ◌∷◌, length, Result, Ok, Err}
use Rattle.std.specs.Char.{is_ascii_digit}
use Rattle.std.specs.List.{list_all}
use Rattle.seq_io.specs.declared.number.NumberFault.{NumberFault}
use Rattle.seq_io.specs.declared.number.NumberFault.TheVariants.{Form, TooLarge}

-- a token is a number: `0`, or a digit from 1 to 9 followed by digits
abbrev pub is_number : List ℕ → Bool
is_number [] = false
is_number (c ∷ cs) = if c == 48 then length cs == 0 else list_all is_ascii_digit (c ∷ cs)

-- the same as a fact
abbrev pub IsNumber : List ℕ → Type 0
IsNumber token = IsTrue (is_number token)

-- the value of a list of digits: each counts as often as its place says
abbrev pub number_value : List ℕ → ℕ
number_value [] = 0
number_value (c ∷ cs) = (c - 48) * 10 ^ length cs + number_value cs

-- a number up to a limit
abbrev pub within : ℕ → ℕ → Result ℕ NumberFault
within limit n = if nat_le n limit then Ok n else Err TooLarge

-- what a token reads as, up to a limit
abbrev pub reading : ℕ → List ℕ → Result ℕ NumberFault
reading limit token = if is_number token then within limit (number_value token) else Err Form
