use Rattle.std.proofs.Common.{◌∙◌}
use Rattle.label_core.proofs.Cores.{there_on, path_from}
use Rattle.label_core.proofs.machine.Core.path_of.Goals as goal

pub path-requires : goal.path-requires
path-requires c =
    there_on c.self.inside.instance.now c.self.inside.sides c.self.inside.notes.items c.self.inside.plan.items c.args.self.now c.self.view_is c.args.id
    c.requires

pub returns : goal.returns
returns c =
    c.path.ensures
    ∙ path_from c.self.inside.instance.now c.self.inside.sides c.self.inside.notes.items c.self.inside.plan.items c.args.self.now c.self.view_is c.args.id
