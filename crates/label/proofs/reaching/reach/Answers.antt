use Rattle.std.proofs.Common.{◌++◌, ◌∙◌}
use Rattle.label.proofs.BriefPaths.{IsBrief-label}
use Rattle.strip_model.proofs.Orders.{IsFeasibleOrder-earliest}
use Rattle.strip_model.proofs.Reaching.{completion_in_reach}
use Rattle.label.proofs.reaching.reach.Goals as goal

pub reach_of-requires : goal.reach_of-requires
reach_of-requires c = IsBrief-label c.args.side.now c.args.label.now c.brief.result c.requires (c.brief.ensures c.args.side.now c.requires)

pub returns-clause-value : goal.returns-clause-value
returns-clause-value c = c.reach_of.ensures c.args.label.now.path.items (c.brief.ensures c.args.side.now c.requires)

pub returns-clause-completions : goal.returns-clause-completions
returns-clause-completions c = λ rest feasible y there.
    let J = c.args.side.now.instance in
    let path = c.args.label.now.path.items in
    c.reach_of.ensures path (c.brief.ensures c.args.side.now c.requires) y
    ∙ completion_in_reach J c.instance.ensures.sound.instance path rest (IsFeasibleOrder-earliest J (path ++ rest) feasible).in_time y there
