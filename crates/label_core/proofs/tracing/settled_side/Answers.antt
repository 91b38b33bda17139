use Rattle.std.proofs.Common.{◌∙◌, arith}
use Rattle.std.specs.Vec.Iter.{into_iter_items}
use Rattle.label_core.proofs.Settling.{side_begins, side_bucket, side_next, side_ends}
use Rattle.label_core.proofs.tracing.settled_side.Goals as goal

pub loop-number-init : goal.loop-number-init
loop-number-init c =
    let ok = c.args.buckets.ok in (
      side_begins c.args.side.now c.args.end c.args.gain c.args.buckets.items (into_iter_items c.into_iter-rest.result) c.in_ok-lists.lists.items
          c.args.notes.now.items c.requires.buckets c.into_iter-rest.ensures.rest c.in_ok-lists.ensures.items,
      omega (arith, c.into_iter-rest.ensures.len, c.requires.buckets.count),
    )

pub settled_bucket-requires-clause-number : goal.settled_bucket-requires-clause-number
settled_bucket-requires-clause-number c =
    (side_bucket c.args.side.now c.args.end c.args.gain c.args.buckets.items (into_iter_items c.loop-number.rest) (into_iter_items c.next.new.self)
    c.loop-number.lists.items c.args.notes.now.items c.loop-number.notes.items c.loop-number.number c.in-Some.bucket c.loop-number.invariant.0
    c.in-Some.ensures.items).number

pub loop-number-preserved : goal.loop-number-preserved
loop-number-preserved c = (
  side_next c.args.side.now c.args.end c.args.gain c.args.buckets.items (into_iter_items c.loop-number.rest) (into_iter_items c.next.new.self)
      c.loop-number.lists.items c.push.new.self.items c.args.notes.now.items c.loop-number.notes.items c.settled_bucket.new.notes.items
      c.loop-number.number c.in-Some.bucket c.in_ok-list.list c.loop-number.invariant.0 c.in-Some.ensures.items c.in_ok-list.ensures.list
      c.in_ok-list.ensures.notes c.in_ok-push.ensures.items,
  omega (arith, c.loop-number.invariant.1, c.in-Some.ensures.len),
)

pub returns-clause-labels : goal.returns-clause-labels
returns-clause-labels c =
    c.from_lists.ensures
    ∙ (side_ends c.args.side.now c.args.end c.args.gain c.args.buckets.items (into_iter_items c.loop-number.rest) c.loop-number.lists.items
    c.args.notes.now.items c.loop-number.notes.items c.loop-number.number c.loop-number-test.false c.loop-number.invariant.0).0

pub returns-clause-notes : goal.returns-clause-notes
returns-clause-notes c =
    (side_ends c.args.side.now c.args.end c.args.gain c.args.buckets.items (into_iter_items c.loop-number.rest) c.loop-number.lists.items
    c.args.notes.now.items c.loop-number.notes.items c.loop-number.number c.loop-number-test.false c.loop-number.invariant.0).1
