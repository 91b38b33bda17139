use Rattle.std.proofs.Common.{◌≡◌, ◌++◌, map, take}
use Rattle.std.specs.List.{flat_map}
use Rattle.proof_log.specs.AnswerReading.{items_of}
use Rattle.proof_log.specs.AnswerText.{path_line}
use Rattle.seq_io.specs.Line.{spelled_line}
use Rattle.proof_log.proofs.writing.append_paths.Given as goal

-- the lines so far were appended
abbrev pub invariant-loop-path : goal.invariant-loop-path
invariant-loop-path l = l.out.items ≡ l.initial.out.items ++ flat_map spelled_line (map (path_line l.end) (items_of (take l.path-index l.paths)))
