use Rattle.label_list.proofs.Records.{listed-set, Keeps-set, there-kept}
use Rattle.label_list.proofs.label_list.LabelList.set_state.Goals as goal

pub returns : goal.returns
returns c =
    listed-set c.self.inside.side.now c.self.inside.steps.items c.self.inside.records.items c.args.id c.args.state c.index_mut.result.now
    c.args.self.now c.self.view_is c.requires c.index_mut.ensures.value

pub invariant_of-self : goal.invariant_of-self
invariant_of-self c =
    Keeps-set c.self.inside.side.now c.self.inside.steps.items c.self.inside.records.items c.self.inside.index c.args.id c.args.state
    c.index_mut.result.now c.self.invariant
    (there-kept c.self.inside.side.now c.self.inside.steps.items c.self.inside.records.items c.args.self.now c.args.id c.self.view_is c.requires)
    c.index_mut.ensures.value
