-- What a call appends to a sink.
use Rattle.std.specs.Prelude.{◌≡◌, ℕ, List, ◌++◌, Option, None, Some}

-- What a call appended, where the sink tells its bytes. A sink that tells none goes on telling
-- none.
abbrev pub Appends : Option (List ℕ) → Option (List ℕ) → List ℕ → Type 0
Appends None after bytes = after ≡ None
Appends (Some written) after bytes = after ≡ Some (written ++ bytes)
