use Rattle.std.proofs.Common.{◌∙◌}
use Rattle.label_core.proofs.Cores.{count_from}
use Rattle.label_core.proofs.machine.Core.count.Goals as goal

pub returns : goal.returns
returns c =
    c.count.ensures
    ∙ count_from c.self.inside.instance.now c.self.inside.sides c.self.inside.notes.items c.self.inside.plan.items c.args.self.now c.self.view_is c.args.end c.args.number
