use Rattle.joiner.proofs.Looking.{All-at}
use Rattle.label.specs.Labels.{IsLabelOf}
use Rattle.comparisons.proofs.tests.all_labels.label_of.Goals as goal

pub returns : goal.returns
returns c = All-at (IsLabelOf c.args.side.now) c.args.labels.now _ c.nth-label.result.now c.requires.labels c.nth-label.ensures
