use Rattle.std.proofs.Common.{◌≡◌, [], replicate}
use Rattle.label_core.proofs.side_labels.SideLabels.new.Given as goal

abbrev pub invariant-loop : goal.invariant-loop
invariant-loop l = l.lists.items ≡ replicate l.counter (record { face = l.side; labels = [] })
