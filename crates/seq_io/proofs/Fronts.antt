-- A number up to a separator, at the front of a text.
use Rattle.std.proofs.Common.{◌≡◌, ℕ, ◌+◌, ◌<◌, ◌^◌, ◌==◌, Bool, true, false, List, ◌∷◌, ◌++◌, length, take, drop, get_or, position, Some, None, decimal, refl, sym, ◌∙◌, ap, arith, length-append}
use Rattle.std.specs.Char.{is_ascii_digit}
use Rattle.std.specs.List.{position_or_len}
use Rattle.std.proofs.lemmas.Bool.{eqb-true, eq-eqb, lt-ltb}
use Rattle.std.proofs.lemmas.Bool.Decides.{nat_tests}
use Rattle.std.proofs.lemmas.Fmt.{digits_decimal, decimal_injective}
use Rattle.std.proofs.lemmas.List.{take-append-drop, drop_more, take_at, drop_at, get_or_append_left, get_or_at}
use Rattle.std.proofs.lemmas.List.Quantifiers.{position-Some}
use Rattle.std.proofs.lemmas.List.Sums.{AllPass-from_list_all, position_or_len_is}
use Rattle.seq_io.proofs.Decimal.{own}

-- the first separator cuts a text in two
pub cut_at : (text : List ℕ) (separator at : ℕ) → position (λ b. b == separator) text ≡ Some at
    → text ≡ take at text ++ separator ∷ drop (at + 1) text
cut_at text separator at h =
    let found = position-Some (λ b. b == separator) text at 0 h in
    sym (take-append-drop at text)
    ∙ ap (λ (rest : List ℕ). take at text ++ rest) (drop_more text at 0 found.0)
    ∙ ap (λ (b : ℕ). take at text ++ b ∷ drop (at + 1) text) (eqb-true (get_or text at 0) separator found.1)

digit_no_separator : (b separator : ℕ) → is_ascii_digit b ≡ true → separator < 48 → (b == separator) ≡ false
digit_no_separator b separator digit small = grind (arith, nat_tests)

-- no digit is a separator
digits_no_separator : (n separator k : ℕ) → n < 2 ^ 64 → separator < 48 → k < length (decimal n) → (get_or (decimal n) k 0 == separator) ≡ false
digits_no_separator n separator k small low l =
    digit_no_separator (get_or (decimal n) k 0) separator (AllPass-from_list_all is_ascii_digit (decimal n) (digits_decimal own n small) k 0 l) low

-- the first separator of a text that begins with a number and a separator is that one
pub position_or_len-number : (n separator : ℕ) (rest : List ℕ) → n < 2 ^ 64 → separator < 48
    → position_or_len (λ b. b == separator) (decimal n ++ separator ∷ rest) ≡ length (decimal n)
position_or_len-number n separator rest small low =
    let p : ℕ → Bool = λ b. b == separator in
    let text = decimal n ++ separator ∷ rest in
    let end = length (decimal n) in
    let inside : end < length text = omega (arith, length-append (decimal n) (separator ∷ rest)) in
    position_or_len_is p text end 0 (omega arith)
    (λ k l. ap p (get_or_append_left (decimal n) (separator ∷ rest) 0 k l) ∙ digits_no_separator n separator k small low l)
    (λ _. eq-eqb _ separator (get_or_at (decimal n) separator rest 0 end refl))

pub position-number : (n separator : ℕ) (rest : List ℕ) → n < 2 ^ 64 → separator < 48
    → position (λ b. b == separator) (decimal n ++ separator ∷ rest) ≡ Some (length (decimal n))
position-number n separator rest small low =
    let text = decimal n ++ separator ∷ rest in
    let end = length (decimal n) in
    let inside : end < length text = omega (arith, length-append (decimal n) (separator ∷ rest)) in
    rw (position_or_len-number n separator rest small low, lt-ltb end (length text) inside) refl

-- what a number up to a separator is, and what follows it
pub same_number : (m n separator : ℕ) (rest more : List ℕ) → m < 2 ^ 64 → n < 2 ^ 64 → separator < 48
    → decimal m ++ separator ∷ rest ≡ decimal n ++ separator ∷ more → (m ≡ n) × (rest ≡ more)
same_number m n separator rest more sm sn low e =
    let p : ℕ → Bool = λ b. b == separator in
    let lengths : length (decimal m) ≡ length (decimal n) =
    some_same (sym (position-number m separator rest sm low) ∙ ap (λ (text : List ℕ). position p text) e ∙ position-number n separator more sn low) in
    let fronts : decimal m ≡ decimal n =
    sym (take_at (decimal m) (separator ∷ rest) (length (decimal m)) refl)
    ∙ ap (λ (text : List ℕ). take (length (decimal m)) text) e
    ∙ take_at (decimal n) (separator ∷ more) (length (decimal m)) (sym lengths) in
    let tails : separator ∷ rest ≡ separator ∷ more =
    sym (drop_at (decimal m) (separator ∷ rest) (length (decimal m)) refl)
    ∙ ap (λ (text : List ℕ). drop (length (decimal m)) text) e
    ∙ drop_at (decimal n) (separator ∷ more) (length (decimal m)) (sym lengths) in
    (decimal_injective m n sm sn fronts, cc)
  where
    some_same : {i j : ℕ} → Some i ≡ Some j → i ≡ j
    some_same e = cc

-- where a number stands at the front, what is in front of the first separator is it
pub front-number : (text rest : List ℕ) (n separator at : ℕ) → n < 2 ^ 64 → separator < 48 → position (λ b. b == separator) text ≡ Some at
    → text ≡ decimal n ++ separator ∷ rest → take at text ≡ decimal n
front-number text rest n separator at small low h e =
    let p : ℕ → Bool = λ b. b == separator in
    let place : at ≡ length (decimal n) =
    some_same (sym h ∙ ap (λ (text : List ℕ). position p text) e ∙ position-number n separator rest small low) in
    ap (λ (text : List ℕ). take at text) e ∙ take_at (decimal n) (separator ∷ rest) at (sym place)
  where
    some_same : {i j : ℕ} → Some i ≡ Some j → i ≡ j
    some_same e = cc

-- where no separator stands, no number with one after it does
pub none-number : (text rest : List ℕ) (n separator : ℕ) → n < 2 ^ 64 → separator < 48 → position (λ b. b == separator) text ≡ None
    → text ≡ decimal n ++ separator ∷ rest → ⊥
none-number text rest n separator small low h e =
    none (sym h ∙ ap (λ (text : List ℕ). position (λ b. b == separator) text) e ∙ position-number n separator rest small low)
  where
    none : {i : ℕ} → None ≡ Some i → ⊥
    none e = cc
