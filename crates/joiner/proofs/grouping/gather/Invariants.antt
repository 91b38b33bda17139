use Rattle.std.proofs.Common.{take}
use Rattle.joiner.specs.Grouping.{IsGathered}
use Rattle.joiner.proofs.grouping.gather.Given as goal

abbrev pub invariant-loop-entry : goal.invariant-loop-entry
invariant-loop-entry l = IsGathered (take l.entry-index l.entries) l.y l.waiting.items
