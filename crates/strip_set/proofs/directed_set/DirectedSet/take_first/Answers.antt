use Rattle.strip_set.specs.declared.directed_set.TheConstants.{MAX_DIRECTED}
use Rattle.strip_set.proofs.Members.{taken_first}
use Rattle.strip_set.proofs.directed_set.DirectedSet.take_first.Goals as goal

pub returns : goal.returns
returns c =
    let first = c.in_ok-first in
    taken_first MAX_DIRECTED first.first c.args.self.now c.without.result first.ensures.set c.without.ensures.set first.ensures.least c.without.ensures.members
