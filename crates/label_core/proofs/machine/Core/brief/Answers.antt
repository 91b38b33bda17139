use Rattle.std.proofs.Common.{List, ℕ}
use Rattle.label.specs.Briefs.{IsBriefOf}
use Rattle.label_core.proofs.Cores.{there_on, label_from}
use Rattle.strip_model.specs.LabelPath.{LabelPath}
use Rattle.strip_model.specs.Side.{Face}
use Rattle.label_core.proofs.machine.Core.brief.Goals as goal

pub brief-requires : goal.brief-requires
brief-requires c =
    there_on c.self.inside.instance.now c.self.inside.sides c.self.inside.notes.items c.self.inside.plan.items c.args.self.now c.self.view_is c.args.id
    c.requires

pub returns-clause-brief : goal.returns-clause-brief
returns-clause-brief c =
    label_from c.self.inside.instance.now c.self.inside.sides c.self.inside.notes.items c.self.inside.plan.items c.args.self.now c.self.view_is
    c.self.inside.gain c.self.inside.labels c.self.invariant c.args.id (λ (S : Face) (path : List ℕ). IsBriefOf S c.brief.result path) c.brief.ensures.brief

pub returns-clause-path : goal.returns-clause-path
returns-clause-path c =
    label_from c.self.inside.instance.now c.self.inside.sides c.self.inside.notes.items c.self.inside.plan.items c.args.self.now c.self.view_is
    c.self.inside.gain c.self.inside.labels c.self.invariant c.args.id (λ (S : Face) (path : List ℕ). LabelPath S path) c.brief.ensures.path
