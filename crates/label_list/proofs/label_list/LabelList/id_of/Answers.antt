use Rattle.label_list.proofs.Records.{found-kept}
use Rattle.label_list.proofs.label_list.LabelList.id_of.Goals as goal

pub returns : goal.returns
returns c =
    found-kept c.self.inside.side.now c.self.inside.steps.items c.deref.result.now c.self.inside.records.items c.deref-2.result.now c.args.self.now
    c.args.path.now c.find.result c.deref.ensures.value c.deref-2.ensures.value c.self.view_is c.find.ensures
