use Rattle.std.proofs.Common.{◌≡◌, ◌+◌, ℕ, map, drop, length, slice_index}
use Rattle.strip_model.specs.Gain.{area_in}
use Rattle.strip_model.specs.Plan.{StripsExist}
use Rattle.strip_model.specs.declared.limits.TheConstants.{MAX_REQUESTS}
use Rattle.strip_model.proofs.gain.areas_in.Given as goal

-- the areas so far and those of what is left make the areas of all
abbrev pub invariant-loop-item : goal.invariant-loop-item
invariant-loop-item g l = record {
  sum : (r : ℕ) → slice_index l.areas r + area_in l.instance r (map g.X.AtDirected.directed (drop l.item-index l.sequence))
      ≡ area_in l.instance r (map g.X.AtDirected.directed l.sequence);
  all : length l.areas ≡ MAX_REQUESTS;
  exist : StripsExist l.instance (map g.X.AtDirected.directed (drop l.item-index l.sequence));
}
