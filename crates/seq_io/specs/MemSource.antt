-- A source in memory, as contracts see it.
use Rattle.std.specs.Prelude.{ℕ, List, length, drop, min}
use Rattle.seq_io.specs.FaultScript.{ScriptState, after_call, after_fault}

-- the bytes still to come, how many a call gives at most, and its faults
pub record SourceState : Type 0 where
  pub left : List ℕ
  pub piece : ℕ
  pub script : ScriptState

-- how many bytes a read gives: as many as a call may give, the buffer holds and are left
abbrev pub read_count : SourceState → ℕ → ℕ
read_count s room = min s.piece (min room (length s.left))

-- a read gave n bytes
abbrev pub after_read : SourceState → ℕ → SourceState
after_read s n = record s { left = drop n s.left; script = after_call s.script }

-- a read failed, and took nothing
abbrev pub after_failed_read : SourceState → SourceState
after_failed_read s = record s { script = after_fault s.script }
