use Rattle.std.proofs.Common.{◌≡◌, suc, ◌+◌, ◌≤◌, length}
use Rattle.instance_text.specs.declared.limits.TheConstants.{MAX_TEXT_BYTES}
use Rattle.instance_text.specs.Lines.{text_lines, lines_from}
use Rattle.instance_text.proofs.reader.Reader.next_line.Given as goal

-- no line that counts has been passed
abbrev pub invariant-loop-self : goal.invariant-loop-self
invariant-loop-self l = record {
  lines : lines_from (suc l.self-inside.passed) (text_lines l.self-inside.rest.now) ≡ l.fn.self.lines;
  count : l.self-inside.passed + length (text_lines l.self-inside.rest.now) ≡ l.fn.self.count;
  short : l.self-inside.passed + length l.self-inside.rest.now ≤ MAX_TEXT_BYTES;
}

abbrev pub decreases-loop-self : goal.decreases-loop-self
decreases-loop-self l = length l.self-inside.rest.now
