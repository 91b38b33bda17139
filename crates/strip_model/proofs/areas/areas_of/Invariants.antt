use Rattle.std.proofs.Common.{◌≡◌, ◌≤◌, ◌*◌, ℕ, length, slice_index, sum_by, take}
use Rattle.strip_model.specs.Gain.{area_for}
use Rattle.strip_model.specs.declared.limits.TheConstants.{MAX_STRIP_AREA}
use Rattle.strip_model.proofs.areas.areas_of.Given as goal

-- each request has the area of its strips so far, none of which adds more than the limit
abbrev pub invariant-loop-strip : goal.invariant-loop-strip
invariant-loop-strip l = record {
  one_each : length l.areas.items ≡ l.requests;
  each_area : (r : ℕ) → slice_index l.areas.items r ≡ sum_by (area_for r) (take l.strip-index l.strips);
  bounded : (r : ℕ) → slice_index l.areas.items r ≤ MAX_STRIP_AREA * l.strip-index;
}
