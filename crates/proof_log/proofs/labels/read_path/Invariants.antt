use Rattle.std.proofs.Common.{◌≡◌, ◌-◌, ◌++◌, map, decimal, length}
use Rattle.proof_log.specs.AnswerRefusal.{path_fields}
use Rattle.proof_log.specs.AnswerText.{IsPathInText}
use Rattle.proof_log.proofs.PathLines.{numbers_fields}
use Rattle.seq_io.specs.StrictText.{line_fault}
use Rattle.strip_model.specs.declared.limits.TheConstants.{MAX_STRIPS}
use Rattle.proof_log.proofs.labels.read_path.Given as goal

-- the numbers so far were read, and as many as stand there may follow, up to the most that a path has
abbrev pub invariant-loop-path : goal.invariant-loop-path
invariant-loop-path l = record {
  in_range : IsPathInText l.path.items;
  tokens : l.fn.reader.tokens ≡ map decimal l.path.items ++ l.reader.tokens;
  after : l.fn.reader.after ≡ l.reader.after;
  line : l.fn.reader.line ≡ l.reader.line;
  fault : line_fault (path_fields l.fn.reader.tokens) l.fn.reader
      ≡ line_fault (numbers_fields (MAX_STRIPS - length l.path.items) l.reader.tokens) l.reader;
}

abbrev pub decreases-loop-path : goal.decreases-loop-path
decreases-loop-path l = MAX_STRIPS - length l.path.items
