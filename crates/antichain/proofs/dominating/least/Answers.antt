use Rattle.std.proofs.Common.{sym}
use Rattle.antichain.proofs.Judgements.{granted, denied}
use Rattle.antichain.proofs.Least.{least-skip, least-refused, least-accepted}
use Rattle.antichain.proofs.dominating.least.Goals as goal
use Rattle.antichain.proofs.dominating.least.Goals.{then-is_less+then-outline_dominates, else-is_less, else-is_less-via-then-is_less+else-outline_dominates, else-is_less-via-else-is_less}

pub loop-member-preserved : goal.loop-member-preserved
loop-member-preserved c =
    elim c.if-is_less.branch [
      | then-is_less+then-outline_dominates w ↦
          rw w.least-is (least-accepted c.args.side.now c.args.outline.now c.args.members.now c.loop-member.member-index c.member-item.result c.loop-member-test.true c.member-item.is
          c.loop-member.least (sym w.if-is_less.ensures)
          (granted c.args.side.now c.member-item.result.outline c.args.outline.now w.if-outline_dominates.ensures) c.loop-member.invariant)
      | else-is_less w ↦ rw w.least-is (elim w.else-is_less.branch [
        | else-is_less-via-then-is_less+else-outline_dominates v ↦
            least-refused c.args.side.now c.args.outline.now c.args.members.now c.loop-member.member-index c.member-item.result c.loop-member-test.true c.member-item.is
            c.loop-member.least
            (denied c.args.side.now c.member-item.result.outline c.args.outline.now v.if-outline_dominates.ensures) c.loop-member.invariant
        | else-is_less-via-else-is_less v ↦
            least-skip c.args.side.now c.args.outline.now c.args.members.now c.loop-member.member-index c.member-item.result c.loop-member-test.true c.member-item.is
            c.loop-member.least (sym v.if-is_less.ensures) c.loop-member.invariant
      ])
    ]
