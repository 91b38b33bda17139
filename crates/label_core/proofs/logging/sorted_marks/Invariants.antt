use Rattle.std.proofs.Common.{take}
use Rattle.label_core.specs.SortedMarks.{AreSorted, lists_of}
use Rattle.label_core.proofs.logging.sorted_marks.Given as goal

abbrev pub invariant-loop-k : goal.invariant-loop-k
invariant-loop-k l = AreSorted l.core.state l.end (take l.k l.core.state.notes) (lists_of l.sorted.items)
