-- A bucket as its lock sees it.
use Rattle.std.specs.Prelude.{ℕ, List}
use Rattle.bucket.specs.Buckets.{Bin}
use Rattle.bucket.specs.Histories.{Step}
use Rattle.bucket.specs.Histories.Step.{Inserts, Takes, Retires, Cuts}
use Rattle.bucket.specs.declared.entry.Entry.{Entry}
use Rattle.bucket.specs.declared.entry.Entry.TheVariants.{Insert, Take, Retire, Cut}
use Rattle.strip_model.specs.Side.{Face}

-- which bucket it is: its side and its number
pub record Whose : Type 0 where
  pub side : Face
  pub number : ℕ

-- the entry of a label with this path
abbrev pub step_with : List ℕ → Entry → Step
step_with path (Insert k) = Inserts k path
step_with path (Take k) = Takes k
step_with path (Retire k by) = Retires k by
step_with path (Cut k) = Cuts k

-- a bucket's history
abbrev pub history_of : Bin → List Step
history_of b = b.history

-- which bucket it is
abbrev pub whose : Bin → Whose
whose b = record { side = b.side; number = b.number }
