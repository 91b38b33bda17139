use Rattle.std.proofs.Common.{map}
use Rattle.joiner.proofs.Pushing.{AreEntries-more, label_behind, All-behind}
use Rattle.joiner.specs.LabelJoins.{IsLabelAt}
use Rattle.joiner.proofs.entries.entries_of.Goals as goal

pub push_entry-requires-clause-label : goal.push_entry-requires-clause-label
push_entry-requires-clause-label c =
    All-behind (IsLabelAt c.args.instance.now c.args.end) (λ l. l.now) c.args.labels.now c.loop-label.label-index c.label-item.result
    c.loop-label-test.true c.label-item.is c.requires.each

pub loop-label-preserved : goal.loop-label-preserved
loop-label-preserved c =
    AreEntries-more c.args.instance.now c.args.end (map (λ l. l.now) c.args.labels.now) c.loop-label.entries.items c.push_entry.new.entries.items
    c.loop-label.label-index c.label-item.result.now c.loop-label.invariant
    (label_behind (λ l. l.now) c.args.labels.now c.loop-label.label-index c.label-item.result c.loop-label-test.true c.label-item.is)
    c.in_ok-push_entry.ensures
