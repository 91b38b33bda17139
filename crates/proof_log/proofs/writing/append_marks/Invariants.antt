use Rattle.std.proofs.Common.{◌≡◌, ◌++◌, map, take}
use Rattle.std.specs.List.{flat_map}
use Rattle.proof_log.specs.AnswerText.{mark_line}
use Rattle.seq_io.specs.Line.{spelled_line}
use Rattle.proof_log.proofs.writing.append_marks.Given as goal

-- the lines so far were appended
abbrev pub invariant-loop-mark : goal.invariant-loop-mark
invariant-loop-mark l = l.out.items ≡ l.initial.out.items ++ flat_map spelled_line (map mark_line (take l.mark-index l.marks))
