use Rattle.std.proofs.Common.{◌≡◌, ◌++◌, ℕ, List, length}
use Rattle.seq_io.specs.Sink.{Appends}
use Rattle.seq_io.proofs.writing.write_whole.Given as goal

-- what was appended so far, and what is left of the bytes; and no fault was counted
abbrev pub invariant-loop-rest : goal.invariant-loop-rest
invariant-loop-rest g l = record {
  done : (front : List ℕ) × Appends (g.K.Sink.written l.initial.sink) (g.K.Sink.written l.sink) front × (l.bytes ≡ front ++ l.rest);
  faults : g.K.Sink.faults l.sink ≡ g.K.Sink.faults l.initial.sink;
}

abbrev pub decreases-loop-rest : goal.decreases-loop-rest
decreases-loop-rest g l = length l.rest
