use Rattle.std.proofs.Common.{◌≡◌, map, drop}
use Rattle.strip_model.specs.Directed.{has_strip}
use Rattle.strip_model.proofs.sequence.has_strip.Given as goal

-- what is left of the sequence has the strip if all of it has
abbrev pub invariant-loop-item : goal.invariant-loop-item
invariant-loop-item g l =
    has_strip l.strip (map g.X.AtDirected.directed (drop l.item-index l.sequence)) ≡ has_strip l.strip (map g.X.AtDirected.directed l.sequence)
