use Rattle.strip_set.specs.declared.strip_set.TheConstants.{MAX_STRIPS}
use Rattle.strip_set.proofs.Members.{taken_first}
use Rattle.strip_set.proofs.strip_set.StripSet.take_first.Goals as goal

pub returns : goal.returns
returns c =
    let first = c.in_ok-first in
    taken_first MAX_STRIPS first.first c.args.self.now c.without.result first.ensures.set c.without.ensures.set first.ensures.least c.without.ensures.members
