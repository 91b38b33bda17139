-- The token at the front of some bytes, as the reader of strict texts sees it.
use Rattle.std.specs.Prelude.{ℕ, ◌==◌, ◌||◌, Bool, if◌then◌else◌, List, []}
use Rattle.std.specs.List.{before_first, position_or_len, slice_split}
use Rattle.seq_io.specs.Line.{LF, BLANK}
use Rattle.seq_io.specs.StrictText.{first_line}

-- a token ends at a blank, at LF, or where the text does
abbrev pub is_token_end : ℕ → Bool
is_token_end b = b == BLANK || b == LF

abbrev pub front_length : List ℕ → ℕ
front_length bytes = position_or_len is_token_end bytes

abbrev pub front_token : List ℕ → List ℕ
front_token bytes = before_first is_token_end bytes

-- how long the first line is
abbrev pub line_length : List ℕ → ℕ
line_length bytes = position_or_len (λ b. b == LF) bytes

-- the tokens of the line at the front that are left, where more are left; else it is over
abbrev pub tokens_left : Bool → List ℕ → List (List ℕ)
tokens_left more bytes = if more then slice_split (λ b. b == BLANK) (first_line bytes) else []
