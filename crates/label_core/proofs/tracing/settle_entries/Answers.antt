use Rattle.bucket.specs.declared.entry.Entry.TheVariants.{Insert}
use Rattle.label_core.proofs.Settling.{settling_next}
use Rattle.label_core.proofs.tracing.settle_entries.Goals as goal

pub loop-entry-preserved : goal.loop-entry-preserved
loop-entry-preserved c =
    settling_next c.args.end c.args.number c.args.gain c.args.entries.now c.args.list.now c.loop-entry.list c.settle.new.list c.args.notes.now.items
    c.loop-entry.notes.items c.settle.new.notes.items c.loop-entry.entry-index (Insert 0) c.loop-entry-test.true c.loop-entry.invariant c.requires.named
    c.in_ok-settle.ensures.list c.in_ok-settle.ensures.notes
