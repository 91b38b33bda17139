-- How backward labels are grouped.
use Rattle.std.specs.Prelude.{ℕ, List}
use Rattle.std.specs.List.{Contains}
use Rattle.joiner.specs.Entries.{IsOfLast}
use Rattle.joiner.specs.declared.entry.Entry.{Entry}

-- those of the entries whose last directed strip is y
pub record IsGathered (entries : List Entry) (y : ℕ) (group : List Entry) : Type 0 where
  pub last : (w : Entry) → Contains group w → IsOfLast y w.tip
  pub each : (w : Entry) → Contains group w → Contains entries w
  pub all : (w : Entry) → Contains entries w → IsOfLast y w.tip → Contains group w
