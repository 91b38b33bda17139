use Rattle.std.proofs.Common.{◌∙◌}
use Rattle.bucket.specs.Histories.{bucket_of}
use Rattle.label_core.proofs.Cores.{IsCore-insert, stepped-insert, count_from}
use Rattle.label_core.proofs.SameIds.{Id_is}
use Rattle.label_core.proofs.SideLists.{label_bucket}
use Rattle.label_core.specs.Machine.{new_id}
use Rattle.strip_model.specs.Side.{face_of}
use Rattle.label_core.proofs.machine.Core.insert.Goals as goal

pub invariant_of-self-2 : goal.invariant_of-self-2
invariant_of-self-2 c =
    IsCore-insert c.self.inside.instance.now c.self.inside.sides c.self.inside.notes.items c.self.inside.plan.items c.args.self.now c.self.view_is
    c.self.inside.gain c.self.inside.labels c.self.invariant c.args.label.now.end c.args.label.now.path.items c.add.new.self c.requires.can c.requires.room
    c.in_ok-index.ensures.1

pub returns-clause-stepped : goal.returns-clause-stepped
returns-clause-stepped c =
    stepped-insert c.self.inside.instance.now c.self.inside.sides c.self.inside.notes.items c.self.inside.plan.items c.args.self.now c.self.view_is c.args.label.now.end
    c.args.label.now.path.items c.add.new.self c.in_ok-index.ensures.1

pub returns-clause-name : goal.returns-clause-name
returns-clause-name c =
    Id_is (record { end = c.end.result; bucket = c.bucket_of.result; index = c.in_ok-index.index })
    (new_id c.args.self.now.state c.args.label.now.end c.args.label.now.path.items) c.end.ensures
    (label_bucket (face_of c.args.self.now.instance c.args.self.now.cut c.args.label.now.end) c.args.label.now c.last.result c.bucket_of.result c.requires.label
    c.last.ensures c.bucket_of.ensures.value)
    (c.in_ok-index.ensures.0
    ∙ count_from c.self.inside.instance.now c.self.inside.sides c.self.inside.notes.items c.self.inside.plan.items c.args.self.now c.self.view_is c.args.label.now.end (bucket_of c.args.label.now.path.items))
