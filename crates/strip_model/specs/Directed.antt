-- Directed strips are numbers: twice the strip, and 1 more in direction 1.
use Rattle.std.specs.Prelude.{ℕ, ◌/◌, ◌%◌, Bool, ◌==◌, List}
use Rattle.std.specs.List.{list_any}

-- the strip of a directed strip
abbrev pub strip_of : ℕ → ℕ
strip_of x = x / 2

-- its direction, 0 or 1
abbrev pub direction_of : ℕ → ℕ
direction_of x = x % 2

-- whether a directed strip stands in a list
abbrev pub has : ℕ → List ℕ → Bool
has y xs = list_any (λ x. x == y) xs

-- whether a strip stands in a list, in either direction
abbrev pub has_strip : ℕ → List ℕ → Bool
has_strip i xs = list_any (λ x. strip_of x == i) xs
