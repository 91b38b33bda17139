-- A drawer as contracts see it.
use Rattle.std.specs.Prelude.{◌≡◌, ℕ, List, ◌∷◌, Option}
use Rattle.atomic_table.specs.Seated.{TableId}

pub record Drawn : Type 0 where
  -- the table of the word that it came from
  pub table : TableId
  -- the numbers that it drew, in order
  pub own : List ℕ
  -- the own numbers of each drawer that was joined into it, and of those that were joined into these
  pub joined : List (List ℕ)
  -- the number that it keeps, where it is exhausted
  pub kept : Option ℕ
  -- the budget of the word
  pub budget : ℕ
  -- its part of the whole weight
  pub weight : ℕ

-- the parties of a drawer: itself and those that were joined into it, each with its own numbers
abbrev pub parties : Drawn → List (List ℕ)
parties d = d.own ∷ d.joined

-- the drawer came from the word with this table
abbrev pub IsDrawerOf : TableId → Drawn → Type 0
IsDrawerOf word d = d.table ≡ word
