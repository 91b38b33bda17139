use Rattle.label_core.proofs.Cores.{IsCore-publish}
use Rattle.label_core.proofs.machine.Core.publish.Goals as goal

pub invariant_of-self : goal.invariant_of-self
invariant_of-self c =
    IsCore-publish c.self.inside.instance.now c.self.inside.sides c.self.inside.notes.items c.self.inside.plan.items c.args.self.now c.self.view_is
    c.self.inside.gain c.self.inside.labels c.self.invariant c.args.plan.items c.args.gain c.requires.can c.requires.gain
