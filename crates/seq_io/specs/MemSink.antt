-- A sink in memory, as contracts see it.
use Rattle.std.specs.Prelude.{◌⊎◌, ◌<◌, ◌≤◌, ◌-◌, ℕ, List, ◌++◌, length, min, Contains}
use Rattle.seq_io.specs.FaultScript.{ScriptState, after_call, after_fault}

-- the bytes appended so far, how many it has room for in all, how many a call takes at most, and
-- its faults
pub record SinkState : Type 0 where
  pub written : List ℕ
  pub room : ℕ
  pub piece : ℕ
  pub script : ScriptState

-- how many of a number of bytes a write takes: as many as a call may take and there is room for
abbrev pub write_count : SinkState → ℕ → ℕ
write_count s n = min s.piece (min n (s.room - length s.written))

-- a write fails: at a call that was told to, and at some bytes where the room is used up
abbrev pub IsRefused : SinkState → List ℕ → Type 0
IsRefused s bytes =
    Contains s.script.fail s.script.calls ⊎ ((0 < length bytes) × (s.room ≤ length s.written))

-- a write appended some bytes
abbrev pub after_write : SinkState → List ℕ → SinkState
after_write s bytes = record s { written = s.written ++ bytes; script = after_call s.script }

-- a write failed, and appended nothing
abbrev pub after_failed_write : SinkState → SinkState
after_failed_write s = record s { script = after_fault s.script }
