use Rattle.std.proofs.Common.{◌≡◌, ◌-◌, ◌*◌, ◌≤◌, List, ◌++◌, length, map, replicate, decimal, All}
use Rattle.manoeuvre.specs.declared.limits.TheConstants.{MAX_MANOEUVRE}
use Rattle.instance_text.specs.Reading.{words_of}
use Rattle.instance_text.specs.Shape.{Field, row_fields, lines_fault}
use Rattle.instance_text.specs.Spelling.{rows_of}
use Rattle.instance_text.proofs.runs.rows.Given as goal

-- the rows so far were read, and the rest of the forms must follow
abbrev pub invariant-loop : goal.invariant-loop
invariant-loop l = record {
  passes : (more : List (List Field)) → lines_fault (replicate l.size (row_fields l.size) ++ more) l.fn.reader.count l.fn.reader.lines ≡ lines_fault (replicate (l.size - l.counter) (row_fields l.size) ++ more) l.reader.count l.reader.lines;
  words : words_of l.fn.reader ≡ map (λ row. map (λ entry. decimal entry) row) (rows_of l.counter l.size l.entries.items) ++ words_of l.reader;
  length : length l.entries.items ≡ l.counter * l.size;
  limits : All (λ entry. entry ≤ MAX_MANOEUVRE) l.entries.items;
}
