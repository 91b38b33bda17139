use Rattle.sequencer.proofs.Searched.{can_begin, IsBegun-published}
use Rattle.sequencer.proofs.searching.begun.Goals as goal

pub publish-requires-clause-can : goal.publish-requires-clause-can
publish-requires-clause-can c =
    can_begin c.args.instance.now c.args.forward.now.cut c.in_ok-core.core c.args.plan.items c.in_ok-core.ensures c.requires.feasible

pub returns : goal.returns
returns c =
    IsBegun-published c.args.instance.now c.args.forward.now.cut c.in_ok-core.core c.publish.new.self c.args.plan.items c.in_ok-core.ensures
    c.requires.feasible c.publish.ensures
