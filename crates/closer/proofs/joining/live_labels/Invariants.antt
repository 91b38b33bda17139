use Rattle.closer.proofs.Joined.{HasLiveBefore}
use Rattle.closer.proofs.joining.live_labels.Given as goal

abbrev pub invariant-loop-number : goal.invariant-loop-number
invariant-loop-number l = HasLiveBefore l.core l.end l.number l.labels.items
