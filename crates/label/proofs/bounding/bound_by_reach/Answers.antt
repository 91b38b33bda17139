use Rattle.std.proofs.Common.{◌∙◌}
use Rattle.label.proofs.Members.{has_strip-same}
use Rattle.label.specs.Outlines.{HasBoundSets}
use Rattle.label.proofs.bounding.bound_by_reach.Goals as goal

pub returns-clause-value : goal.returns-clause-value
returns-clause-value c = λ path is_path h in_reach.
    let J = c.args.side.now.instance in
    let this = c.instance.ensures.value in
    let sets : HasBoundSets J path c.strips.result c.needs_of.result c.args.reach = record {
      in_time = is_path.in_time;
      visited = λ i. c.strips.ensures.strips i ∙ has_strip-same c.args.brief.now.visited path h.visited i;
      needed = c.needs_of.ensures path h;
      reach = in_reach;
    } in
    let value = rw this at (c.bound_of_sets.ensures.value path) in
    value sets
