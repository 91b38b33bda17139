use Rattle.std.proofs.Common.{◌≡◌, ◌-◌, ◌≤◌, List, ◌++◌, length, map, replicate, All}
use Rattle.strip_model.specs.declared.limits.TheConstants.{MAX_GAIN}
use Rattle.instance_text.specs.Reading.{words_of}
use Rattle.instance_text.specs.Shape.{Field, request_fields, lines_fault}
use Rattle.instance_text.specs.Spelling.{request_line}
use Rattle.instance_text.proofs.runs.requests.Given as goal

-- the lines so far were read, and the rest of the forms must follow
abbrev pub invariant-loop : goal.invariant-loop
invariant-loop l = record {
  passes : (more : List (List Field)) → lines_fault (replicate l.requests request_fields ++ more) l.fn.reader.count l.fn.reader.lines ≡ lines_fault (replicate (l.requests - l.counter) request_fields ++ more) l.reader.count l.reader.lines;
  words : words_of l.fn.reader ≡ map request_line l.all.items ++ words_of l.reader;
  length : length l.all.items ≡ l.counter;
  limits : All (λ r. r.gain ≤ MAX_GAIN) l.all.items;
}
