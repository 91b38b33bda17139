-- Strict texts: what is spelled is read, and what is read was spelled.
use Rattle.std.proofs.Common.{◌≡◌, ◌≢◌, ℕ, suc, ◌+◌, ◌<◌, ◌≤◌, ◌^◌, ◌==◌, Bool, true, false, not, List, [], ◌∷◌, ◌++◌, length, take, drop, get_or, refl, ap, sym, ◌∙◌, arith, length-take-le, Some, None, Ok, decimal}
use Rattle.std.specs.List.{before_first, after_first, position_or_len}
use Rattle.std.specs.Str.{bytes_eq}
use Rattle.std.proofs.lemmas.Bool.{eqb-true, eq-eqb, le-leb}
use Rattle.std.proofs.lemmas.List.{drop_more, take_at}
use Rattle.std.proofs.lemmas.List.Sums.{passes_at_first}
use Rattle.seq_io.specs.Front.{front_length, front_token, line_length, tokens_left}
use Rattle.seq_io.specs.Line.{LF, BLANK, SLASH}
use Rattle.seq_io.specs.Number.{IsNumber, number_value, reading}
use Rattle.seq_io.specs.Token.{ratio}
use Rattle.seq_io.proofs.Decimal.{IsNumber-decimal, number_value-decimal}
use Rattle.seq_io.proofs.Fronts.{position_or_len-number}
use Rattle.seq_io.specs.StrictText.{Field, TheWord, ANumber, ARatio, is_slash, first_fault, token_fault, tokens_fault, is_next}
use Rattle.seq_io.specs.declared.line_fault.LineFault.TheVariants.{Word, Extra}
use Rattle.seq_io.proofs.FrontTokens.{parts, begins_blank, behind_token, blank_follows, none_follows}

-- what a number within the limit reads as
reading-within : (token : List ℕ) (limit : ℕ) → IsNumber token → number_value token ≤ limit → reading limit token ≡ Ok (number_value token)
reading-within token limit form within = rw (form, le-leb (number_value token) limit within) refl

texts_same : (xs : List ℕ) → bytes_eq xs xs ≡ true
texts_same [] = refl
texts_same (x ∷ xs) = rw (eq-eqb x x refl, texts_same xs) refl

-- the slash of a ratio is its first
slash_cuts : (n unit : ℕ) → n < 2 ^ 64 → (before_first is_slash (ratio n unit) ≡ decimal n) × (after_first is_slash (ratio n unit) ≡ decimal unit)
slash_cuts n unit small =
    let place : position_or_len is_slash (ratio n unit) ≡ length (decimal n) = position_or_len-number n SLASH (decimal unit) small (omega arith) in (
      ap (λ k. take k (ratio n unit)) place ∙ take_at (decimal n) (SLASH ∷ decimal unit) (length (decimal n)) refl,
      ap (λ k. drop (k + 1) (ratio n unit)) place ∙ behind_front (decimal n) SLASH (decimal unit),
    ) where
      behind_front : (xs : List ℕ) (y : ℕ) (ys : List ℕ) → drop (length xs + 1) (xs ++ y ∷ ys) ≡ ys
      behind_front [] y ys = refl
      behind_front (x ∷ xs) y ys =
          let next : length (x ∷ xs) + 1 ≡ suc (length xs + 1) = omega arith in
          ap (λ k. drop k (x ∷ xs ++ y ∷ ys)) next ∙ behind_front xs y ys

-- the token at the front is the first of its line
pub record IsFirst (token : List ℕ) (tokens : List (List ℕ)) : Type 0 where
  pub more : List (List ℕ)
  pub is : tokens ≡ token ∷ more

pub front_is_first : (bytes : List ℕ) → IsFirst (front_token bytes) (parts bytes)
front_is_first bytes = by_rest (behind_token bytes) refl where
  by_rest : (rest : List ℕ) → behind_token bytes ≡ rest → IsFirst (front_token bytes) (parts bytes)
  by_rest [] e = record { more = []; is = (none_follows bytes (ap begins_blank e)).parts_are }
  by_rest (b ∷ rest) e = by_blank (b == BLANK) refl where
    by_blank : (blank : Bool) → (b == BLANK) ≡ blank → IsFirst (front_token bytes) (parts bytes)
    by_blank true h = record { more = parts rest; is = (blank_follows bytes rest (e ∙ ap (λ c. c ∷ rest) (eqb-true b BLANK h))).parts_are }
    by_blank false h = record { more = []; is = (none_follows bytes (ap begins_blank e ∙ h)).parts_are }

-- so it decides
pub first_fault_is : (field : Field) (more : Bool) (bytes : List ℕ) → more ≡ true
    → first_fault field (tokens_left more bytes) ≡ token_fault field (front_token bytes)
first_fault_is field more bytes some =
    rw (some, (front_is_first bytes).is) refl

pub is_next_is : (word : List ℕ) (more : Bool) (bytes : List ℕ) (end : ℕ) → more ≡ true → end ≡ front_length bytes
    → is_next word (tokens_left more bytes) ≡ bytes_eq (take end bytes) word
is_next_is word more bytes end some long = rw (some, (front_is_first bytes).is, long) refl

-- another word stands there
pub wrong_word : (word : List ℕ) (more : Bool) (bytes : List ℕ) (end : ℕ) → more ≡ true → end ≡ front_length bytes
    → true ≡ not (bytes_eq (take end bytes) word) → Some Word ≡ first_fault (TheWord word) (tokens_left more bytes)
wrong_word word more bytes end some long other =
    let same : bytes_eq (front_token bytes) word ≡ false = rw (← long) (fails (bytes_eq (take end bytes) word) other) in
    sym (first_fault_is (TheWord word) more bytes some ∙ rw same refl)
  where
    fails : (b : Bool) → true ≡ not b → b ≡ false
    fails true h = cc
    fails false h = refl

-- a token too many that isn't empty
pub one_too_many : (bytes after : List ℕ) → front_length bytes ≢ 0 → front_length bytes ≤ length bytes → tokens_fault [] (parts bytes) after ≡ Some Extra
one_too_many bytes after some within =
    rw (front_is_first bytes).is (by_token (front_token bytes) (omega (arith, length-take-le (front_length bytes) bytes within))) where
      by_token : (token : List ℕ) → 0 < length token → tokens_fault [] (token ∷ (front_is_first bytes).more) after ≡ Some Extra
      by_token [] some = absurd (omega arith)
      by_token (b ∷ token) some = refl

-- a line that isn't empty and is over begins with its LF
pub begins_with_LF : (bytes : List ℕ) → line_length bytes ≡ 0 → 0 < length bytes → bytes ≡ LF ∷ drop 1 bytes
begins_with_LF bytes over some =
    let p : ℕ → Bool = λ b. b == LF in
    let inside : position_or_len p bytes < length bytes = omega arith in
    let at : (get_or bytes (position_or_len p bytes) 0 == LF) ≡ true = passes_at_first p bytes 0 inside in
    let first : get_or bytes 0 0 ≡ LF = eqb-true (get_or bytes 0 0) LF (ap (λ n. get_or bytes n 0 == LF) (sym over) ∙ at) in
    drop_more bytes 0 0 some ∙ ap (λ b. b ∷ drop 1 bytes) first

-- a number within the limit can stand
number_within : (token : List ℕ) (limit : ℕ) → IsNumber token → number_value token ≤ limit → token_fault (ANumber limit) token ≡ None
number_within [] limit form within = cc
number_within (b ∷ bytes) limit form within = rw (reading-within (b ∷ bytes) limit form within) refl

pub number_stands : (n limit : ℕ) → n ≤ limit → n < 2 ^ 64 → token_fault (ANumber limit) (decimal n) ≡ None
number_stands n limit within small =
    number_within (decimal n) limit (IsNumber-decimal n small) (rw (number_value-decimal n small) within)

-- and so can it before a slash and the unit
pub ratio_stands : (n limit unit : ℕ) → n ≤ limit → n < 2 ^ 64 → unit < 2 ^ 64 → token_fault (ARatio limit unit) (ratio n unit) ≡ None
ratio_stands n limit unit within small unit_small =
    let cut = slash_cuts n unit small in
    rw (cut.1, texts_same (decimal unit), cut.0, reading-within (decimal n) limit (IsNumber-decimal n small) (rw (number_value-decimal n small) within)) refl

-- and a word where it must
pub word_stands : (word : List ℕ) → token_fault (TheWord word) word ≡ None
word_stands word = rw (texts_same word) refl
