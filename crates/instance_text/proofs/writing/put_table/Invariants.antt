use Rattle.std.proofs.Common.{◌≡◌, ◌++◌}
use Rattle.std.specs.List.{flat_map}
use Rattle.instance_text.specs.Spelling.{table_lines}
use Rattle.seq_io.specs.Line.{spelled_line}
use Rattle.instance_text.proofs.Spelled.{rows_from}
use Rattle.instance_text.proofs.writing.put_table.Given as goal

-- the lines so far and those of the rows that are left are all
abbrev pub invariant-loop-x : goal.invariant-loop-x
invariant-loop-x l = l.text.items ++ rows_from l.table l.x ≡ l.fn.text.items ++ flat_map spelled_line (table_lines l.table)
