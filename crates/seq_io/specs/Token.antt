-- The tokens of lines, as they are written.
use Rattle.std.specs.Prelude.{ℕ, List, [], ◌∷◌, ◌++◌, decimal}
use Rattle.seq_io.specs.Line.{BLANK, SLASH}
use Rattle.seq_io.specs.declared.token.Token.{Token}
use Rattle.seq_io.specs.declared.token.Token.TheVariants.{Word, Number, Ratio}

-- a number of parts of a unit, as 7/20
abbrev pub ratio : ℕ → ℕ → List ℕ
ratio number unit = decimal number ++ SLASH ∷ decimal unit

-- the bytes of a token
abbrev pub bytes_of : Token → List ℕ
bytes_of (Word word) = word.now
bytes_of (Number number) = decimal number
bytes_of (Ratio number unit) = ratio number unit

-- a token and a blank
abbrev pub ended : List ℕ → List ℕ
ended token = token ++ BLANK ∷ []
