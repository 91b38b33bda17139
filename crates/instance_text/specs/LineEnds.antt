-- Bytes whose last line has its LF.
use Rattle.std.specs.Prelude.{ℕ, ◌==◌, Bool, false, if◌then◌else◌, List, [], ◌∷◌, ◌++◌}
use Rattle.instance_text.specs.Lines.{LF}

-- whether the last byte is LF
abbrev pub ends_with_LF : List ℕ → Bool
ends_with_LF [] = false
ends_with_LF (b ∷ []) = b == LF
ends_with_LF (b ∷ c ∷ bytes) = ends_with_LF (c ∷ bytes)

-- the bytes, with LF at their end if that was missing
abbrev pub with_line_end : List ℕ → List ℕ
with_line_end bytes = if ends_with_LF bytes then bytes else bytes ++ LF ∷ []
