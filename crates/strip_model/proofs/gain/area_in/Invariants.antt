use Rattle.std.proofs.Common.{◌≡◌, ◌+◌, map, drop}
use Rattle.strip_model.specs.Gain.{area_in}
use Rattle.strip_model.specs.Plan.{StripsExist}
use Rattle.strip_model.proofs.gain.area_in.Given as goal

-- the area so far and that of what is left make the area of all
abbrev pub invariant-loop-item : goal.invariant-loop-item
invariant-loop-item g l = record {
  sum : l.area + area_in l.instance l.request (map g.X.AtDirected.directed (drop l.item-index l.sequence))
      ≡ area_in l.instance l.request (map g.X.AtDirected.directed l.sequence);
  exist : StripsExist l.instance (map g.X.AtDirected.directed (drop l.item-index l.sequence));
}
