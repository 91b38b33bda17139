use Rattle.std.proofs.Common.{◌≡◌, ◌*◌, length}
use Rattle.std.specs.List.{All}
use Rattle.label.specs.Labels.{IsLabelOf}
use Rattle.pool.proofs.extensions.add_extensions.Given as goal

-- the extensions so far are labels of the side
abbrev pub invariant-loop-turn : goal.invariant-loop-turn
invariant-loop-turn l = All (IsLabelOf l.side) l.fresh.items × (l.count ≡ 2 * length l.side.instance.strips)
