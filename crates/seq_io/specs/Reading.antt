-- What a reading of a whole source comes to.
use Rattle.std.specs.Prelude.{◌≡◌, ◌≤◌, ◌+◌, ℕ, List, length, Option, Result, Ok, Err, Vec}
use Rattle.std.specs.declared.alloc.Global.{Global}
use Rattle.seq_io.specs.Source.{IsAtEnd}
use Rattle.seq_io.specs.declared.reading.ReadRefusal.{ReadRefusal}
use Rattle.seq_io.specs.declared.reading.ReadRefusal.TheVariants.{ReadFault, TooLong, Memory}

-- What a reading of the whole source came to, where `taken` are the bytes that it took and
-- `after` is what is left. So the limit and one more is taken exactly at `TooLong`.
abbrev pub IsReading : Result (Vec ℕ Global) ReadRefusal → Option (List ℕ) → List ℕ → ℕ → Type 0
IsReading (Ok v) after taken limit = (v.items ≡ taken) × (length taken ≤ limit) × IsAtEnd after
IsReading (Err TooLong) after taken limit = length taken ≡ limit + 1
IsReading (Err ReadFault) after taken limit = length taken ≤ limit
IsReading (Err Memory) after taken limit = length taken ≤ limit
