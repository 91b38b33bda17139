use Rattle.label_list.proofs.Records.{label_paths}
use Rattle.label_list.proofs.label_list.LabelList.len.Goals as goal

pub returns-clause-paths : goal.returns-clause-paths
returns-clause-paths c =
    label_paths c.self.inside.side.now c.self.inside.steps.items c.self.inside.records.items c.args.self.now c.self.invariant.records c.self.view_is
