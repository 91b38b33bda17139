use Rattle.std.proofs.Common.{map}
use Rattle.joiner.specs.Represented.{AreEntries}
use Rattle.joiner.proofs.entries.entries_of.Given as goal

abbrev pub invariant-loop-label : goal.invariant-loop-label
invariant-loop-label l = AreEntries l.instance l.end (map (λ r. r.now) l.labels) l.label-index l.entries.items
