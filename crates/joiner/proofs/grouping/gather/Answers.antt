use Rattle.std.proofs.Common.{sym, ◌∙◌, true≢false}
use Rattle.joiner.proofs.Gathering.{IsGathered-takes, IsGathered-skips}
use Rattle.joiner.proofs.grouping.gather.Goals.{then-has_last+in_ok-push, else-has_last}
use Rattle.joiner.proofs.grouping.gather.Goals as goal

pub loop-entry-preserved : goal.loop-entry-preserved
loop-entry-preserved c =
    let es = c.args.entries.now in
    let n = c.loop-entry.entry-index in
    let x = c.entry-item.result in
    let group = c.loop-entry.waiting.items in
    elim c.if-has_last.branch [
      | then-has_last+in_ok-push w ↦
          rw (w.waiting-is, w.in_ok-push.ensures.items)
          (IsGathered-takes es n c.args.y x group c.loop-entry-test.true c.entry-item.is (c.has_last.ensures.0 w.if-has_last.true) c.loop-entry.invariant)
      | else-has_last w ↦
          rw (w.waiting-is)
          (IsGathered-skips es n c.args.y x group c.loop-entry-test.true c.entry-item.is
          (λ of. absurd (true≢false (sym (c.has_last.ensures.1 of) ∙ w.if-has_last.false))) c.loop-entry.invariant)
    ]
