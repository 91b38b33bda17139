-- A list that only grew at its end.
use Rattle.std.specs.Prelude.{◌≡◌, ℕ, List, ◌++◌}

-- something may have been appended
abbrev pub Grew : List ℕ → List ℕ → Type 0
Grew old new = (more : List ℕ) × (new ≡ old ++ more)
