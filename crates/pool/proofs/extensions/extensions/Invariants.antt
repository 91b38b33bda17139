use Rattle.std.specs.List.{All}
use Rattle.label.specs.Labels.{IsLabelOf}
use Rattle.pool.proofs.extensions.extensions.Given as goal

-- the extensions so far are labels of the side
abbrev pub invariant-loop-k : goal.invariant-loop-k
invariant-loop-k l = All (IsLabelOf l.side) l.fresh.items
