-- Lines of tokens, as they are written.
use Rattle.std.specs.Prelude.{ℕ, List, [], ◌∷◌, ◌++◌}
use Rattle.std.specs.List.{join_with_byte}

-- the bytes that end a line, stand between its tokens, and stand between a number and its unit
abbrev pub LF : ℕ
LF = 10

abbrev pub BLANK : ℕ
BLANK = 32

abbrev pub SLASH : ℕ
SLASH = 47

-- a line as it is written: one blank between tokens, and LF
abbrev pub spelled_line : List (List ℕ) → List ℕ
spelled_line tokens = join_with_byte BLANK tokens ++ LF ∷ []
