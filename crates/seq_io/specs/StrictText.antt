-- Strict texts, read from the left: lines of tokens, one blank between two tokens, and LF after each line.
use Rattle.std.specs.Prelude.{◌≡◌, ℕ, ◌+◌, ◌==◌, ◌||◌, Bool, false, not, if◌then◌else◌, List, [], ◌∷◌, ◌++◌, Option, None, Some, Result, Ok, Err, decimal, drop, IsTrue, ⊤}
use Rattle.std.specs.List.{before_first, after_first, join_with_byte, list_all, position_or_len, slice_split}
use Rattle.std.specs.Option.{option_or}
use Rattle.std.specs.Str.{bytes_eq}
use Rattle.seq_io.specs.Line.{LF, BLANK, SLASH}
use Rattle.seq_io.specs.Number.{reading}
use Rattle.seq_io.specs.declared.line_fault.LineFault.{LineFault}
use Rattle.seq_io.specs.declared.line_fault.LineFault.TheVariants.{Ended, Word, Number, Range, Extra}
use Rattle.seq_io.specs.declared.number.NumberFault.{NumberFault}
use Rattle.seq_io.specs.declared.number.NumberFault.TheVariants.{Form, TooLarge}

-- what a token must be: a fixed word, a number up to a limit, or such a number of parts of a unit
pub data Field : Type 0 where
  TheWord : (word : List ℕ) → Field
  ANumber : (limit : ℕ) → Field
  ARatio : (limit unit : ℕ) → Field

-- why a token isn't a number
abbrev pub fault_of : Result ℕ NumberFault → Option LineFault
fault_of (Ok n) = None
fault_of (Err Form) = Some Number
fault_of (Err TooLarge) = Some Range

-- the byte between a number and its unit
abbrev pub is_slash : ℕ → Bool
is_slash b = b == SLASH

-- Why a token can't stand. An empty one, as between two blanks, is no number at all.
abbrev pub token_fault : Field → List ℕ → Option LineFault
token_fault (TheWord word) token = if bytes_eq token word then None else Some Word
token_fault (ANumber limit) [] = Some Word
token_fault (ANumber limit) (b ∷ bytes) = fault_of (reading limit (b ∷ bytes))
token_fault (ARatio limit unit) token =
    if bytes_eq (after_first is_slash token) (decimal unit) then fault_of (reading limit (before_first is_slash token)) else Some Word

-- the same of the first token that is left
abbrev pub first_fault : Field → List (List ℕ) → Option LineFault
first_fault field [] = Some Ended
first_fault field (token ∷ tokens) = token_fault field token

-- Why a line can't stand of which these tokens are left, and then these bytes: the first token from the left that can't,
-- one that is missing or is too many, or at last the LF. A blank at the end makes an empty token.
abbrev pub tokens_fault : List Field → List (List ℕ) → List ℕ → Option LineFault
tokens_fault [] [] [] = Some Ended
tokens_fault [] [] (b ∷ after) = None
tokens_fault [] ([] ∷ tokens) after = Some Word
tokens_fault [] ((b ∷ bytes) ∷ tokens) after = Some Extra
tokens_fault (field ∷ fields) [] after = Some Ended
tokens_fault (field ∷ fields) (token ∷ tokens) after = option_or (token_fault field token) (tokens_fault fields tokens after)

-- the tokens of a line: what stands between blanks. An empty line has none.
abbrev pub line_tokens : List ℕ → List (List ℕ)
line_tokens [] = []
line_tokens (b ∷ bytes) = slice_split (λ c. c == BLANK) (b ∷ bytes)

-- What is left of a text: the number of the line that is being read, from 1; those of its tokens that are left; and the
-- bytes behind them, which begin with LF, or are none where the text ends.
pub record Rest : Type 0 where
  pub line : ℕ
  pub tokens : List (List ℕ)
  pub after : List ℕ

-- the first line of some bytes, and the bytes behind it
abbrev pub first_line : List ℕ → List ℕ
first_line bytes = before_first (λ b. b == LF) bytes

abbrev pub behind_line : List ℕ → List ℕ
behind_line bytes = drop (position_or_len (λ b. b == LF) bytes) bytes

-- a text from the beginning of a line on
unfoldable pub at_line : ℕ → List ℕ → Rest
at_line number bytes = record { line = number; tokens = line_tokens (first_line bytes); after = behind_line bytes }

-- the bytes that are left
abbrev pub unread : Rest → List ℕ
unread rest = join_with_byte BLANK rest.tokens ++ rest.after

-- with one token more in front
abbrev pub with_token : List ℕ → Rest → Rest
with_token token rest = record rest { tokens = token ∷ rest.tokens }

-- the first token that is left is this word
abbrev pub is_next : List ℕ → List (List ℕ) → Bool
is_next word [] = false
is_next word (token ∷ tokens) = bytes_eq token word

-- why a line can't stand that must have these fields
abbrev pub line_fault : List Field → Rest → Option LineFault
line_fault fields rest = tokens_fault fields rest.tokens rest.after

-- why a text can't end here: something is left
abbrev pub end_fault : Rest → Option LineFault
end_fault rest = nothing_more rest.tokens rest.after where
  nothing_more : List (List ℕ) → List ℕ → Option LineFault
  nothing_more [] [] = None
  nothing_more [] (b ∷ after) = Some Extra
  nothing_more (token ∷ tokens) after = Some Extra

-- A line of these tokens was read: they were left, and the next line begins behind the LF.
pub record IsLine (tokens : List (List ℕ)) (old new : Rest) : Type 0 where
  pub tokens_are : old.tokens ≡ tokens
  pub bytes : List ℕ
  pub ends : old.after ≡ LF ∷ bytes
  pub next : new ≡ at_line (old.line + 1) bytes

-- tokens that can be read again: each has some bytes, and no blank and no LF among them
abbrev pub is_plain : ℕ → Bool
is_plain b = not (b == BLANK || b == LF)

abbrev pub is_token : List ℕ → Bool
is_token [] = false
is_token (b ∷ bytes) = list_all is_plain (b ∷ bytes)

abbrev pub AreTokens : List (List ℕ) → Type 0
AreTokens [] = ⊤
AreTokens (token ∷ tokens) = IsTrue (is_token token) × AreTokens tokens
