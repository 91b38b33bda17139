-- What a call takes from a source.
use Rattle.std.specs.Prelude.{◌≡◌, ℕ, List, [], ◌++◌, Option, None, Some}

-- What a call took of what was left, where the source tells its bytes. A source that tells none
-- goes on telling none.
abbrev pub Consumes : Option (List ℕ) → Option (List ℕ) → List ℕ → Type 0
Consumes None after taken = after ≡ None
Consumes (Some left) after taken = (rest : List ℕ) × (left ≡ taken ++ rest) × (after ≡ Some rest)

-- nothing is left, where the source tells
abbrev pub IsAtEnd : Option (List ℕ) → Type 0
IsAtEnd None = Unit {0}
IsAtEnd (Some left) = left ≡ []
