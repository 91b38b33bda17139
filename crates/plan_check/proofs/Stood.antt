-- Tokens that can stand in a line were spelled there.
use Rattle.std.proofs.Common.{◌≡◌, ℕ, ◌+◌, ◌<◌, ◌≤◌, ◌^◌, ◌==◌, Bool, true, false, nat_le, if◌then◌else◌, List, [], ◌∷◌, ◌++◌, decimal, length, drop, get_or, refl, sym, ◌∙◌, ap, arith, Option, None, Some, Ok, Err, length-drop}
use Rattle.std.proofs.lemmas.Bool.{eqb-true, leb-true}
use Rattle.std.proofs.lemmas.List.{append_assoc, get_or-drop}
use Rattle.std.proofs.lemmas.List.Sums.{passes_at_first}
use Rattle.std.proofs.lemmas.Slice.Eq.{bytes_eq-Decides}
use Rattle.std.specs.Bool.{Decides}
use Rattle.std.specs.List.{join_with_byte, position_or_len}
use Rattle.std.specs.Option.{option_or}
use Rattle.std.specs.Str.{bytes_eq}
use Rattle.seq_io.proofs.Decimal.{decimal-number_value}
use Rattle.seq_io.proofs.Spelled.{unread-at_line}
use Rattle.seq_io.specs.Line.{LF, BLANK, spelled_line}
use Rattle.seq_io.specs.Number.{is_number, number_value}
use Rattle.seq_io.specs.StrictText.{Field, TheWord, ANumber, Rest, at_line, behind_line, fault_of, token_fault, tokens_fault}
use Rattle.seq_io.specs.declared.line_fault.LineFault.{LineFault}
use Rattle.seq_io.specs.declared.line_fault.LineFault.TheVariants.{Word}
use Rattle.seq_io.specs.declared.number.NumberFault.TheVariants.{Form, TooLarge}

-- a word that can stand is the one that must
pub word_stood : (word token : List ℕ) → token_fault (TheWord word) token ≡ None → token ≡ word
word_stood word token stands = by_test (bytes_eq token word) (bytes_eq-Decides token word) stands where
  by_test : (same : Bool) → Decides same (token ≡ word) → (if same then None else Some Word) ≡ None → token ≡ word
  by_test true d e = d.0 refl
  by_test false d e = absurd (cc)

-- a number that can stand is one within the limit
pub record IsNumberUpTo (limit : ℕ) (token : List ℕ) : Type 0 where
  pub number : ℕ
  pub within : number ≤ limit
  pub spelling : token ≡ decimal number

pub number_stood : (limit : ℕ) (token : List ℕ) → limit < 2 ^ 64 → token_fault (ANumber limit) token ≡ None → IsNumberUpTo limit token
number_stood limit [] small stands = absurd (cc)
number_stood limit (b ∷ bytes) small stands =
    let token = b ∷ bytes in
    by_tests (is_number token) (nat_le (number_value token) limit) refl refl stands where
      by_tests : (form fits : Bool) → is_number (b ∷ bytes) ≡ form → nat_le (number_value (b ∷ bytes)) limit ≡ fits
          → fault_of (if form then (if fits then Ok (number_value (b ∷ bytes)) else Err TooLarge) else Err Form) ≡ None → IsNumberUpTo limit (b ∷ bytes)
      by_tests true true is fits e =
          let within : number_value (b ∷ bytes) ≤ limit = leb-true (number_value (b ∷ bytes)) limit fits in
          record { number = number_value (b ∷ bytes); within = within; spelling = sym (decimal-number_value (b ∷ bytes) is (omega (arith, within, small))) }
      by_tests true false is over e = absurd (cc)
      by_tests false fits other test e = absurd (cc)

-- the first token of a line that can stand, and the others
pub record StandsFirst (field : Field) (fields : List Field) (tokens : List (List ℕ)) (after : List ℕ) : Type 0 where
  pub token : List ℕ
  pub more : List (List ℕ)
  pub is : tokens ≡ token ∷ more
  pub stands : token_fault field token ≡ None
  pub others : tokens_fault fields more after ≡ None

pub first_stood : (field : Field) (fields : List Field) (tokens : List (List ℕ)) (after : List ℕ) → tokens_fault (field ∷ fields) tokens after ≡ None
    → StandsFirst field fields tokens after
first_stood field fields [] after e = absurd (cc)
first_stood field fields (token ∷ tokens) after e = by_first (token_fault field token) refl e where
  by_first : (found : Option LineFault) → token_fault field token ≡ found → option_or found (tokens_fault fields tokens after) ≡ None
      → StandsFirst field fields (token ∷ tokens) after
  by_first None stands e = record { token = token; more = tokens; is = refl; stands = stands; others = e }
  by_first (Some fault) stands e = absurd (cc)

-- no token is left, and the line is over
pub record StandsLast (tokens : List (List ℕ)) (after : List ℕ) : Type 0 where
  pub byte : ℕ
  pub more : List ℕ
  pub none : tokens ≡ []
  pub over : after ≡ byte ∷ more

pub last_stood : (tokens : List (List ℕ)) (after : List ℕ) → tokens_fault [] tokens after ≡ None → StandsLast tokens after
last_stood [] [] e = absurd (cc)
last_stood [] (b ∷ after) e = record { byte = b; more = after; none = refl; over = refl }
last_stood ([] ∷ tokens) after e = absurd (cc)
last_stood ((b ∷ bytes) ∷ tokens) after e = absurd (cc)

-- what follows a line begins with LF
LF_follows : (bytes : List ℕ) (b : ℕ) (more : List ℕ) → behind_line bytes ≡ b ∷ more → b ≡ LF
LF_follows bytes b more e =
    let p : ℕ → Bool = λ b. b == LF in
    let at : ℕ = position_or_len p bytes in
    let inside : at < length bytes = omega (arith, length-drop at bytes, ap (λ (bytes : List ℕ). length bytes) e) in
    let same : at ≡ at + 0 = omega arith in
    let first : get_or bytes at 0 ≡ b = ap (λ (k : ℕ). get_or bytes k 0) same ∙ sym (get_or-drop at bytes 0 0) ∙ ap (λ (bytes : List ℕ). get_or bytes 0 0) e in
    eqb-true b LF (ap (λ (c : ℕ). c == LF) (sym first) ∙ passes_at_first p bytes 0 inside)

-- the first line of some bytes was spelled
pub line_stood : (bytes : List ℕ) (tokens : List (List ℕ)) (b : ℕ) (more : List ℕ) → (at_line 1 bytes).tokens ≡ tokens → (at_line 1 bytes).after ≡ b ∷ more
    → bytes ≡ spelled_line tokens ++ more
unfolding at_line
line_stood bytes tokens b more are over =
    let joined = join_with_byte BLANK tokens in
    sym (unread-at_line 1 bytes)
    ∙ ap (λ (parts : List (List ℕ)). join_with_byte BLANK parts ++ (at_line 1 bytes).after) are
    ∙ ap (λ (after : List ℕ). joined ++ after) (over ∙ ap (λ (c : ℕ). c ∷ more) (LF_follows bytes b more over))
    ∙ sym (append_assoc joined (LF ∷ []) more)
