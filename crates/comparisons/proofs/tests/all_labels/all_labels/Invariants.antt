use Rattle.std.proofs.Common.{All}
use Rattle.label.specs.Labels.{IsLabelOf}
use Rattle.comparisons.proofs.tests.all_labels.all_labels.Given as goal

-- each label is one of the side
abbrev pub invariant-loop-place : goal.invariant-loop-place
invariant-loop-place l = All (IsLabelOf l.side) l.labels.items
