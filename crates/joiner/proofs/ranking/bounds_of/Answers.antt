use Rattle.std.proofs.Common.{map}
use Rattle.joiner.proofs.Pushing.{AreRanked-more, label_behind, All-behind}
use Rattle.label.specs.Labels.{IsLabelOf}
use Rattle.joiner.proofs.ranking.bounds_of.Goals as goal

pub push_ranked-requires-clause-label : goal.push_ranked-requires-clause-label
push_ranked-requires-clause-label c =
    All-behind (IsLabelOf c.args.side.now) (λ l. l.now) c.args.forward.now c.loop-label.label-index c.label-item.result
    c.loop-label-test.true c.label-item.is c.requires.each

pub loop-label-preserved : goal.loop-label-preserved
loop-label-preserved c =
    AreRanked-more c.args.side.now.instance (map (λ l. l.now) c.args.forward.now) c.loop-label.order.items c.push_ranked.new.order.items
    c.loop-label.label-index c.label-item.result.now c.loop-label.invariant
    (label_behind (λ l. l.now) c.args.forward.now c.loop-label.label-index c.label-item.result c.loop-label-test.true c.label-item.is)
    c.in_ok-push_ranked.ensures
