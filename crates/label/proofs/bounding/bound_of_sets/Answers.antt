use Rattle.std.proofs.Common.{sym, ◌∙◌}
use Rattle.label.proofs.PathBounds.{bound-met, set_gain-with_reach, met_in_sets, unmet_in_sets}
use Rattle.label.proofs.bounding.bound_of_sets.Goals as goal

pub returns-then-not-is_empty-clause-value : goal.returns-then-not-is_empty-clause-value
returns-then-not-is_empty-clause-value c path h =
    let missing = c.if-not-is_empty.ensures.some in
    sym (unmet_in_sets c.args.instance.now path c.args.visited c.args.needs c.args.reach c.minus.result missing.0 h c.minus.ensures.members missing.1)

pub returns-clause-value : goal.returns-clause-value
returns-clause-value c path h =
    let J = c.args.instance.now in
    c.gain_of_strips.ensures.value
    ∙ set_gain-with_reach J path c.args.visited c.args.needs c.args.reach c.strips.result c.join.result h c.strips.ensures.strips c.join.ensures.members
    ∙ sym (bound-met J path
    (met_in_sets J path c.args.visited c.args.needs c.args.reach c.minus.result h c.minus.ensures.members c.if-not-is_empty.ensures.none))
