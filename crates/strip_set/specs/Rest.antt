-- What an iterator over a set has left.
use Rattle.std.specs.Prelude.{ℕ, List}
use Rattle.strip_set.specs.declared.set_iter.Rest.{Rest}
use Rattle.strip_set.specs.declared.set_iter.Rest.TheVariants.{Strips, Directed}

-- the members that are left
abbrev pub members_left : Rest → List ℕ
members_left (Strips set) = set
members_left (Directed set) = set
