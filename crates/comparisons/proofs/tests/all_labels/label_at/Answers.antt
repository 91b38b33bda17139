use Rattle.joiner.proofs.Looking.{All-at}
use Rattle.joiner.specs.LabelJoins.{IsLabelAt}
use Rattle.comparisons.proofs.tests.all_labels.label_at.Goals as goal

pub returns : goal.returns
returns c = All-at (IsLabelAt c.args.instance.now c.args.end) c.args.labels.now _ c.nth-label.result.now c.requires.labels c.nth-label.ensures
