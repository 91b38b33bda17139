use Rattle.std.proofs.Common.{◌∙◌}
use Rattle.label_core.proofs.Cores.{there_on, state_from}
use Rattle.label_core.proofs.machine.Core.state_of.Goals as goal

pub state-requires : goal.state-requires
state-requires c =
    there_on c.self.inside.instance.now c.self.inside.sides c.self.inside.notes.items c.self.inside.plan.items c.args.self.now c.self.view_is c.args.id c.requires

pub returns : goal.returns
returns c =
    c.state.ensures
    ∙ state_from c.self.inside.instance.now c.self.inside.sides c.self.inside.notes.items c.self.inside.plan.items c.args.self.now c.self.view_is c.args.id
