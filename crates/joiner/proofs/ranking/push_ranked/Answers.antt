use Rattle.joiner.proofs.LabelEnds.{IsLabelAt-side}
use Rattle.joiner.proofs.ranking.push_ranked.Goals as goal

pub tip_of-tip-requires : goal.tip_of-tip-requires
tip_of-tip-requires c =
    IsLabelAt-side c.args.side.now c.instance-instance.result.now c.args.label.now c.instance-instance.ensures.value c.requires.side c.requires.label
