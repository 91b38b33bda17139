use Rattle.label.proofs.bounding.bound_of.Goals as goal

pub returns : goal.returns
returns c = λ path is_path h. c.bound_by_reach.ensures.value path is_path h (c.reach_of.ensures path h)
