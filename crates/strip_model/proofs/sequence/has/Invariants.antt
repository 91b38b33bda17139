use Rattle.std.proofs.Common.{◌≡◌, map, drop}
use Rattle.strip_model.specs.Directed.{has}
use Rattle.strip_model.proofs.sequence.has.Given as goal

-- what is left of the sequence has the directed strip if all of it has
abbrev pub invariant-loop-item : goal.invariant-loop-item
invariant-loop-item g l =
    has l.x (map g.X.AtDirected.directed (drop l.item-index l.sequence)) ≡ has l.x (map g.X.AtDirected.directed l.sequence)
