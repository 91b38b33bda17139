use Rattle.std.proofs.Common.{below_more}
use Rattle.stereo_twins.specs.Refusal.{KeepsRules}
use Rattle.stereo_twins.proofs.TwinLemmas.{KeepsRules-alone, KeepsRules-tested}
use Rattle.stereo_twins.proofs.twin_map.check_strip.Goals as goal

pub returns-in_default-clause-kept : goal.returns-in_default-clause-kept
returns-in_default-clause-kept c =
    let twins = c.args.twins.now in
    let requests = c.args.requests.now in
    below_more (KeepsRules twins requests) c.args.i c.requires.below (KeepsRules-alone twins requests c.args.i c.in_default.is)

pub returns-clause-kept : goal.returns-clause-kept
returns-clause-kept c =
    let twins = c.args.twins.now in
    let requests = c.args.requests.now in
    below_more (KeepsRules twins requests) c.args.i c.requires.below
    (KeepsRules-tested twins requests c.args.i c.in-Some.twin c.in-Some.is c.if-twin-i.false c.if-requests-twin.false c.if-ne.ensures)
