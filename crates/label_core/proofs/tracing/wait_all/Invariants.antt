use Rattle.std.proofs.Common.{◌≡◌}
use Rattle.label_core.proofs.Settling.{first_wait}
use Rattle.label_list.specs.Labels.{with_labels}
use Rattle.label_core.proofs.tracing.wait_all.Given as goal

abbrev pub invariant-loop-id : goal.invariant-loop-id
invariant-loop-id l = l.list ≡ with_labels l.fn.list (first_wait l.fn.list.labels l.id)
