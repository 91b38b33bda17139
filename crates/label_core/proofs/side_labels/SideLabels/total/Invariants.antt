use Rattle.std.proofs.Common.{◌≡◌, ◌≤◌, ◌*◌, length, take, sum_by}
use Rattle.label.specs.declared.limits.TheConstants.{MAX_LISTED}
use Rattle.label_core.proofs.side_labels.SideLabels.total.Given as goal

abbrev pub invariant-loop-bucket : goal.invariant-loop-bucket
invariant-loop-bucket l =
    (l.total ≡ sum_by (λ labels. length labels) (take l.bucket l.self.buckets)) × (l.total ≤ l.bucket * MAX_LISTED)
