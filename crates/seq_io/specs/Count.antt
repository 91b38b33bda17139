-- Counts of calls and of faults, and what a fault rests on.
use Rattle.std.specs.Prelude.{◌≡◌, ◌⊎◌, ℕ, ◌+◌, ◌<◌, ◌≤◌, min}
use Rattle.seq_io.specs.declared.count.TheConstants.{LAST_COUNT}

-- one more, up to the last count
abbrev pub next_count : ℕ → ℕ
next_count n = min (n + 1) LAST_COUNT

-- The count rose, or stands at the last count, where no rise shows any more.
abbrev pub Rose : ℕ → ℕ → Type 0
Rose before after = (before < after) ⊎ (after ≡ LAST_COUNT)

-- A count of faults never falls. A fault is told only where it rose, and where none is told the count is as it was.
pub record HasCause (before after : ℕ) (IsFault : Type 0) : Type 0 where
  pub never_falls : before ≤ after
  pub rose : IsFault → Rose before after
  pub kept : ¬ IsFault → after ≡ before
