use Rattle.closer.specs.Joining.{AddsLive}
use Rattle.closer.proofs.joining.push_live.Given as goal

abbrev pub invariant-loop-index : goal.invariant-loop-index
invariant-loop-index l = AddsLive l.core l.end l.number l.index l.fn.labels.items l.labels.items
