use Rattle.std.proofs.Common.{◌≡◌, ◌-◌, ◌<◌, List, ◌++◌, length, map, replicate, All}
use Rattle.std.specs.Prelude.{IfSome}
use Rattle.strip_model.specs.IsInstance.{IsStrip}
use Rattle.instance_text.specs.Reading.{words_of}
use Rattle.instance_text.specs.Shape.{Field, strip_fields, lines_fault}
use Rattle.instance_text.specs.Spelling.{strip_line}
use Rattle.instance_text.specs.Text.{IsStripInText}
use Rattle.instance_text.proofs.runs.strips.Given as goal

-- the lines so far were read, and the rest of the forms must follow
abbrev pub invariant-loop : goal.invariant-loop
invariant-loop l = record {
  passes : (more : List (List Field)) → lines_fault (replicate l.strips (strip_fields l.requests l.strips) ++ more) l.fn.reader.count l.fn.reader.lines ≡ lines_fault (replicate (l.strips - l.counter) (strip_fields l.requests l.strips) ++ more) l.reader.count l.reader.lines;
  words : words_of l.fn.reader ≡ map strip_line l.all.items ++ words_of l.reader;
  length : length l.all.items ≡ l.counter;
  limits : All (IsStrip l.requests) l.all.items;
  twins : All (λ s. IfSome s.twin (λ i. i < l.strips)) l.all.items;
  windows : All IsStripInText l.all.items;
}
