use Rattle.label_core.proofs.SideLists.{total_done}
use Rattle.label_core.proofs.side_labels.SideLabels.total.Goals as goal

pub returns-clause-value : goal.returns-clause-value
returns-clause-value c =
    total_done c.self.inside.side.now c.self.inside.lists.items c.args.self.now c.loop-bucket.bucket c.loop-bucket.total c.self.view_is
    c.self.invariant.1 c.loop-bucket-test.false c.loop-bucket.invariant.0
