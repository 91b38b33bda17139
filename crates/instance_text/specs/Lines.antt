-- How a text is cut into lines, and a line into tokens.
use Rattle.std.specs.Prelude.{◌≡◌, ◌⊎◌, ℕ, suc, ◌==◌, ◌||◌, Bool, true, if◌then◌else◌, nat_lt, List, [], ◌∷◌, ◌++◌, length, filter, slice_index}
use Rattle.std.specs.List.{slice_split}

-- the bytes that end a line, begin a comment, and separate tokens: blank, tab and CR
abbrev pub LF : ℕ
LF = 10

abbrev pub HASH : ℕ
HASH = 35

abbrev pub is_separator : ℕ → Bool
is_separator b = b == 32 || b == 9 || b == 13

-- a byte goes before the first line, or is a line of its own
abbrev pub onto_first_line : ℕ → List (List ℕ) → List (List ℕ)
onto_first_line b [] = (b ∷ []) ∷ []
onto_first_line b (line ∷ lines) = (b ∷ line) ∷ lines

-- The lines of a text. Each ends at LF, and bytes after the last LF are a line too.
abbrev pub text_lines : List ℕ → List (List ℕ)
text_lines [] = []
text_lines (b ∷ bytes) = if b == LF then [] ∷ text_lines bytes else onto_first_line b (text_lines bytes)

-- the tokens of a line: what stands between separators
abbrev pub tokens_of : List ℕ → List (List ℕ)
tokens_of line = filter (λ token. nat_lt 0 (length token)) (slice_split is_separator line)

-- a line without tokens, or one that begins with #, is passed over
abbrev pub is_passed_over : List (List ℕ) → Bool
is_passed_over [] = true
is_passed_over (token ∷ tokens) = slice_index token 0 == HASH

-- a line that counts: its number in the text, from 1, and its tokens
pub record Line : Type 0 where
  pub number : ℕ
  pub tokens : List (List ℕ)

-- the lines that count, of lines that are numbered from n
abbrev pub lines_from : ℕ → List (List ℕ) → List Line
lines_from n [] = []
lines_from n (line ∷ lines) =
    if is_passed_over (tokens_of line) then lines_from (suc n) lines
    else (record { number = n; tokens = tokens_of line } ∷ lines_from (suc n) lines)

-- the lines of a text that count
abbrev pub lines_that_count : List ℕ → List Line
lines_that_count bytes = lines_from 1 (text_lines bytes)

-- a text is its first line with LF and the bytes after it, or it is a line without LF
abbrev pub IsCut : List ℕ → List ℕ → List ℕ → Type 0
IsCut bytes line rest = (bytes ≡ line ++ LF ∷ rest) ⊎ ((bytes ≡ line) × (rest ≡ []))
