-- A number has one spelling, its decimal one.
use Rattle.std.proofs.Common.{◌≡◌, ◌≢◌, ◌↔◌, ℕ, zero, suc, ◌<◌, ◌^◌, ◌+◌, ◌-◌, ◌*◌, ◌⊎◌, inl, inr, true, List, [], ◌∷◌, ◌++◌, length-append, length, get_or, Result, Ok, Err, decimal, IsUtf8, refl, arith, rules, sym, ap, ◌∙◌}
use Rattle.std.specs.Char.{is_ascii_digit}
use Rattle.std.specs.List.{list_all}
use Rattle.std.specs.Str.Parse.{ParsesUnsigned}
use Rattle.std.specs.Result.{OkIff, result_ok}
use Rattle.std.specs.Option.{SomeIff}
use Rattle.std.proofs.lemmas.Str.{IsUtf8-from_ascii}
use Rattle.std.proofs.lemmas.Str.Parse.{IsNumeralModel, numerals_by_weight, parse_digits}
use Rattle.std.proofs.lemmas.Fmt.{digits_decimal, digits_value-decimal, decimal-digits_value, decimal_nonempty, first_decimal, decimal_digit, IsAscii-from_digits}
use Rattle.std.proofs.lemmas.Bool.Decides.{nat_tests}
use Rattle.std.proofs.Math.Nat.{pow-succ'}
use Rattle.seq_io.specs.Number.{is_number, IsNumber, number_value}

-- what is known of digits and their value in std holds of the value of a number
pub own : IsNumeralModel (λ ds. list_all is_ascii_digit ds ≡ true) number_value
own = numerals_by_weight _ (search rules) number_value (search rules)

-- a number is digits, at least one, and only `0` begins with 0
pub record IsDigits (token : List ℕ) : Type 0 where
  pub digits : list_all is_ascii_digit token ≡ true
  pub some : 0 < length token
  pub no_leading_zero : get_or token 0 0 ≡ 48 → length token ≡ 1
  pub no_sign : get_or token 0 0 ≢ 43

pub digits-from_number : (token : List ℕ) → IsNumber token → IsDigits token
digits-from_number [] h = cc
digits-from_number (c ∷ []) h = record {
  digits = grind (arith, nat_tests);
  some = omega arith;
  no_leading_zero = λ _. refl;
  no_sign = grind (arith, nat_tests);
}
digits-from_number (c ∷ d ∷ cs) h = record {
  digits = grind (arith, nat_tests);
  some = omega arith;
  no_leading_zero = grind (arith, nat_tests);
  no_sign = grind (arith, nat_tests);
}

-- where no 0 is first, digits are all that it takes
pub no_zero_first : (token : List ℕ) → 0 < length token → get_or token 0 0 ≢ 48 → is_number token ≡ list_all is_ascii_digit token
no_zero_first [] some h = absurd (omega arith)
no_zero_first (c ∷ cs) some h = grind (arith, nat_tests)

-- the spelling of a number's value is that number
pub decimal-number_value : (token : List ℕ) → IsNumber token → number_value token < 2 ^ 64 → decimal (number_value token) ≡ token
decimal-number_value token h small =
    let d = digits-from_number token h in
    decimal-digits_value own token d.digits d.some d.no_leading_zero small

number-from_digits : (token : List ℕ) → list_all is_ascii_digit token ≡ true → 0 < length token → (get_or token 0 0 ≡ 48 → length token ≡ 1) → IsNumber token
number-from_digits [] digits some no_zero = absurd (omega arith)
number-from_digits (c ∷ []) digits some no_zero = grind (arith, nat_tests)
number-from_digits (c ∷ d ∷ cs) digits some no_zero = grind (arith, nat_tests)

-- no 0 is first in a decimal spelling but in `0`
decimal_zero_first : (n : ℕ) → n < 2 ^ 64 → get_or (decimal n) 0 0 ≡ 48 → length (decimal n) ≡ 1
decimal_zero_first zero small h = ap length (decimal_digit 0 (omega arith))
decimal_zero_first (suc n) small h = absurd (omega (arith, first_decimal (suc n) (omega arith) small))

-- a decimal spelling is a number
pub IsNumber-decimal : (n : ℕ) → n < 2 ^ 64 → IsNumber (decimal n)
IsNumber-decimal n small = number-from_digits _ (digits_decimal own n small) (decimal_nonempty n small) (decimal_zero_first n small)

-- and stands for its value
pub number_value-decimal : (n : ℕ) → n < 2 ^ 64 → number_value (decimal n) ≡ n
number_value-decimal n small = digits_value-decimal own n small

-- the number of a value below 2^64 is its decimal spelling, and nothing else is
pub one_spelling : (token : List ℕ) (n : ℕ) → n < 2 ^ 64 → (IsNumber token × (number_value token ≡ n)) ↔ (token ≡ decimal n)
one_spelling token n small = (
  λ h. let e = h.1 in
      let below : number_value token < 2 ^ 64 = omega arith in
      sym (decimal-number_value token h.0 below) ∙ ap decimal e,
  λ e. rw e (IsNumber-decimal n small, number_value-decimal n small),
)

-- a number is UTF-8
pub IsUtf8-number : (token : List ℕ) → IsNumber token → IsUtf8 token
IsUtf8-number token h = IsUtf8-from_ascii token (IsAscii-from_digits token (own.to token (digits-from_number token h).digits))

-- what std reads of a number
pub value-from_parse : {E : Type 0} (token : List ℕ) (r : Result ℕ E) → IsNumber token → ParsesUnsigned 64 10 token r → SomeIff (result_ok r) (number_value token < 2 ^ 64) (number_value token)
value-from_parse token r h parses =
    let d = digits-from_number token h in
    without_length token r d.some (parse_digits own 64 token r parses d.digits) where
      without_length : {E : Type 0} (token : List ℕ) (r : Result ℕ E) → 0 < length token → OkIff r ((0 < length token) × (number_value token < 2 ^ 64)) (number_value token) → SomeIff (result_ok r) (number_value token < 2 ^ 64) (number_value token)
      without_length token (Ok n) some p = (p.0.1, p.1)
      without_length token (Err e) some p = λ small. p (some, small)

-- one digit more
pub number_value-push : (token : List ℕ) (c : ℕ) → number_value (token ++ c ∷ []) ≡ 10 * number_value token + (c - 48)
number_value-push [] c = omega arith
number_value-push (b ∷ bytes) c =
    let more : length (bytes ++ c ∷ []) ≡ suc (length bytes) = omega (arith, length-append bytes (c ∷ [])) in
    rw (more, pow-succ' 10 (length bytes), number_value-push bytes c) (omega arith)

-- digits are a number where there is one, or the first isn't 0
pub number-from_front : (token : List ℕ) → list_all is_ascii_digit token ≡ true → (length token ≡ 1) ⊎ ((1 < length token) × (get_or token 0 0 ≢ 48)) → IsNumber token
number-from_front token digits (inl one) = number-from_digits token digits (omega arith) (λ _. one)
number-from_front token digits (inr more) = number-from_digits token digits (omega arith) (λ zero_first. absurd (more.1 zero_first))

pub ruleset spellings = (decimal-number_value, IsNumber-decimal, number_value-decimal)
