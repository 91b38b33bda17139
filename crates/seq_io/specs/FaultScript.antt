-- The faults that a source or a sink in memory was told to have.
use Rattle.std.specs.Prelude.{ℕ, List}
use Rattle.seq_io.specs.Count.{next_count}

-- the numbers of the calls that fail, from 0; how many calls came; and how many failed
pub record ScriptState : Type 0 where
  pub fail : List ℕ
  pub calls : ℕ
  pub faults : ℕ

-- one more call came
abbrev pub after_call : ScriptState → ScriptState
after_call s = record s { calls = next_count s.calls }

-- one more call came, and failed
abbrev pub after_fault : ScriptState → ScriptState
after_fault s = record s { calls = next_count s.calls; faults = next_count s.faults }
