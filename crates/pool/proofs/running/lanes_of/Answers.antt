use Rattle.std.proofs.Common.{ap, sym, subst}
use Rattle.std.proofs.lemmas.List.Elements.{All-nil}
use Rattle.std.specs.List.{All}
use Rattle.pool.specs.Lanes.{IsLaneOf}
use Rattle.strip_model.specs.Side.{Face}
use Rattle.pool.proofs.running.lanes_of.Goals as goal

pub add_lanes-requires-clause-end : goal.add_lanes-requires-clause-end
add_lanes-requires-clause-end c = ap (λ (S : Face). S.end) c.requires.0

pub add_lanes-requires-2-clause-end : goal.add_lanes-requires-2-clause-end
add_lanes-requires-2-clause-end c = ap (λ (S : Face). S.end) c.requires.1
