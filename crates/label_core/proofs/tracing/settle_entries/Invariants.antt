use Rattle.std.proofs.Common.{drop}
use Rattle.label_core.proofs.Settling.{IsSettling}
use Rattle.label_core.proofs.tracing.settle_entries.Given as goal

abbrev pub invariant-loop-entry : goal.invariant-loop-entry
invariant-loop-entry l =
    IsSettling l.end l.number l.gain l.entries (drop l.entry-index l.entries) l.fn.list l.list l.fn.notes.items l.notes.items
