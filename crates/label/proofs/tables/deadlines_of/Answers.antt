use Rattle.std.proofs.Common.{◌*◌, length, ap}
use Rattle.label.proofs.Entries.{entries_more, AreEntries-whole}
use Rattle.label.specs.Tables.{deadline_at}
use Rattle.strip_model.specs.declared.strip.Strip.{Strip}
use Rattle.std.proofs.Common.{List}
use Rattle.label.proofs.tables.deadlines_of.Goals as goal

pub loop-place-preserved : goal.loop-place-preserved
loop-place-preserved c =
    entries_more (deadline_at c.args.instance.now) (2 * length c.strips.result.now) c.loop-place.place c.deadline.result c.loop-place.deadlines.items c.push.new.self.items
    c.deadline.ensures c.loop-place.invariant c.in_ok-push.ensures.items

pub returns : goal.returns
returns c =
    AreEntries-whole c.args.instance.now (deadline_at c.args.instance.now) (2 * length c.strips.result.now) c.loop-place.place c.loop-place.deadlines.items
    (ap (λ (strips : List Strip). 2 * length strips) c.strips.ensures.value) c.loop-place-test.false c.loop-place.auto.place-end c.loop-place.invariant
