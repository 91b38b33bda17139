use Rattle.std.proofs.Common.{◌≡◌, [], replicate}
use Rattle.label_core.specs.SortedMarks.{lists_of}
use Rattle.label_core.proofs.logging.no_marks.Given as goal

abbrev pub invariant-loop : goal.invariant-loop
invariant-loop l = lists_of l.sorted.items ≡ replicate l.counter []
