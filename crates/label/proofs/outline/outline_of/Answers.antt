use Rattle.std.proofs.Common.{◌≡◌, ℕ, ap, ◌∙◌}
use Rattle.label.proofs.Members.{has_strip-same}
use Rattle.label.proofs.PathAreas.{reaches_strip-set, set_gain-path}
use Rattle.label.specs.Gaining.{set_gain}
use Rattle.label.specs.Outlines.{HasBoundSets}
use Rattle.strip_model.specs.Directed.{has, has_strip}
use Rattle.strip_model.specs.Orbit.{Orbit}
use Rattle.label.proofs.outline.outline_of.Goals as goal

pub returns : goal.returns
returns c = λ path is_path h.
    let J = c.args.side.now.instance in
    let this = c.instance-instance.ensures.value in
    let strips = c.strips-visited.result in
    let visited : (i : ℕ) → has i strips ≡ has_strip i path = λ i.
    c.strips-visited.ensures.strips i ∙ has_strip-same c.args.brief.now.visited path h.visited i in
    let sets : HasBoundSets J path strips c.needs_of-needs.result c.reach_of-reach.result = record {
      in_time = is_path.in_time;
      visited = visited;
      needed = c.needs_of-needs.ensures path h;
      reach = c.reach_of-reach.ensures path h;
    } in
    let bounds = rw this at (c.bound_of_sets.ensures.value path) in
    record {
      at = h.at;
      visited = visited;
      reach = λ i. c.strips.ensures.strips i ∙ reaches_strip-set J path c.reach_of-reach.result (c.reach_of-reach.ensures path h) i;
      needs = c.needs_of-needs.ensures path h;
      gain = c.gain_of_strips.ensures.value ∙ ap (λ (I : Orbit). set_gain I strips) this ∙ set_gain-path J path strips is_path.in_time visited;
      bound = bounds sets;
    }
