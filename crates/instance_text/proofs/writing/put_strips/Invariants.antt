use Rattle.std.proofs.Common.{◌≡◌, ◌++◌, map, drop}
use Rattle.std.specs.List.{flat_map}
use Rattle.instance_text.specs.Spelling.{strip_line}
use Rattle.seq_io.specs.Line.{spelled_line}
use Rattle.instance_text.proofs.writing.put_strips.Given as goal

-- the lines so far and those of the strips that are left are all
abbrev pub invariant-loop-strip : goal.invariant-loop-strip
invariant-loop-strip l = l.text.items ++ flat_map spelled_line (map strip_line (drop l.strip-index l.strips)) ≡ l.fn.text.items ++ flat_map spelled_line (map strip_line l.strips)
