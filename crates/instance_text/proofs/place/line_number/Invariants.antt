use Rattle.std.proofs.Common.{◌≡◌, drop}
use Rattle.instance_text.specs.Lines.{lines_that_count}
use Rattle.instance_text.proofs.place.line_number.Given as goal

-- as many lines that count were passed
abbrev pub invariant-loop : goal.invariant-loop
invariant-loop l = l.reader.lines ≡ drop l.counter (lines_that_count l.bytes)
