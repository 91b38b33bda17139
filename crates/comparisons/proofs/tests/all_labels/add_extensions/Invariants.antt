use Rattle.std.proofs.Common.{All}
use Rattle.label.specs.Labels.{IsLabelOf}
use Rattle.comparisons.proofs.tests.all_labels.add_extensions.Given as goal

-- each label is one of the side
abbrev pub invariant-loop-x : goal.invariant-loop-x
invariant-loop-x l = All (IsLabelOf l.side) l.labels.items
