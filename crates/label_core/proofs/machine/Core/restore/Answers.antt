use Rattle.std.proofs.Common.{IfOk, List, ℕ}
use Rattle.label.specs.Labels.{IsLabelWith}
use Rattle.label_core.proofs.Cores.{there_on, label_from}
use Rattle.strip_model.specs.Side.{Face}
use Rattle.label_core.proofs.machine.Core.restore.Goals as goal

pub restore-requires : goal.restore-requires
restore-requires c =
    there_on c.self.inside.instance.now c.self.inside.sides c.self.inside.notes.items c.self.inside.plan.items c.args.self.now c.self.view_is c.args.id
    c.requires

pub returns : goal.returns
returns c =
    label_from c.self.inside.instance.now c.self.inside.sides c.self.inside.notes.items c.self.inside.plan.items c.args.self.now c.self.view_is
    c.self.inside.gain c.self.inside.labels c.self.invariant c.args.id (λ (S : Face) (path : List ℕ). IfOk c.restore.result (IsLabelWith S path))
    c.restore.ensures
