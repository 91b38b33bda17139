use Rattle.std.proofs.Common.{◌≡◌}
use Rattle.std.specs.List.{All}
use Rattle.board.specs.Passes.{side_at}
use Rattle.label.specs.Labels.{IsLabelOf}
use Rattle.pool.proofs.rounds.take_ready.Given as goal

-- the lanes are as they were, and the labels that were taken are of the side
abbrev pub invariant-loop-k : goal.invariant-loop-k
invariant-loop-k l = (l.lanes.items ≡ l.fn.lanes.items) × All (IsLabelOf (side_at l.board l.end)) l.labels.items
