use Rattle.std.proofs.Common.{map, All, length}
use Rattle.proof_log.specs.AnswerReading.{Passes}
use Rattle.proof_log.specs.AnswerRefusal.{AtMarks}
use Rattle.proof_log.specs.AnswerText.{mark_line, IsMarkInText}
use Rattle.seq_io.specs.StrictText.{unread}
use Rattle.proof_log.proofs.marks.read_marks.Given as goal

-- the lines of the marks so far were read, and the next one begins
abbrev pub invariant-loop-reader : goal.invariant-loop-reader
invariant-loop-reader l = record {
  in_range : All IsMarkInText l.marks.items;
  passes : Passes AtMarks AtMarks (map mark_line l.marks.items) l.initial.reader l.reader;
}

abbrev pub decreases-loop-reader : goal.decreases-loop-reader
decreases-loop-reader l = length (unread l.reader)
