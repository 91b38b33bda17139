use Rattle.std.proofs.Common.{List}
use Rattle.label_list.specs.Labels.{Held, with_state}
use Rattle.label_core.proofs.SideLists.{sided-change, below_lists}
use Rattle.label_core.proofs.side_labels.SideLabels.set_state.Goals as goal

pub returns : goal.returns
returns c =
    sided-change c.self.inside.side.now c.self.inside.lists.items c.from.result c.args.bucket c.index_mut.result.now c.set_state.new.self c.args.self.now
    (λ (labels : List Held). with_state labels c.args.k c.args.state) c.self.view_is
    (below_lists c.self.inside.side.now c.self.inside.lists.items c.from.result c.args.bucket c.args.k c.args.self.now c.self.view_is c.from.ensures
    c.requires) c.from.ensures c.index_mut.ensures.value c.set_state.ensures
