use Rattle.label.proofs.BriefPaths.{IsBrief-label}
use Rattle.label.proofs.PathBounds.{completion-le-bound}
use Rattle.label.proofs.bounding.bound_with.Goals as goal

pub bound_by_reach-requires : goal.bound_by_reach-requires
bound_by_reach-requires c =
    IsBrief-label c.args.side.now c.args.label.now c.brief.result c.requires.label (c.brief.ensures c.args.side.now c.requires.label)

pub returns-clause-value : goal.returns-clause-value
returns-clause-value c =
    let label = c.requires.label in
    c.bound_by_reach.ensures.value c.args.label.now.path.items label.path (c.brief.ensures c.args.side.now label) c.requires.reach

pub returns-clause-completions : goal.returns-clause-completions
returns-clause-completions c = λ rest h.
    let label = c.requires.label in
    let path = c.args.label.now.path.items in
    completion-le-bound c.args.side.now.instance c.instance.ensures.sound.instance path rest c.bound_by_reach.result
    (c.bound_by_reach.ensures.value path label.path (c.brief.ensures c.args.side.now label) c.requires.reach) h
