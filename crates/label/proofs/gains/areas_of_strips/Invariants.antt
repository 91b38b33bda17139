use Rattle.std.proofs.Common.{◌≡◌, ℕ, length, slice_index}
use Rattle.label.proofs.SetSums.{IsAdding}
use Rattle.strip_model.specs.Gain.{area_for}
use Rattle.strip_model.specs.Orbit.{strip_at}
use Rattle.strip_model.specs.declared.limits.TheConstants.{MAX_REQUESTS}
use Rattle.label.proofs.gains.areas_of_strips.Given as goal

-- each request has the areas of the members so far
abbrev pub invariant-loop-strip : goal.invariant-loop-strip
invariant-loop-strip l = record {
  each : (r : ℕ) → IsAdding (length l.instance.strips) (λ i. area_for r (strip_at l.instance i)) l.fn.set l.strip-iterator (slice_index l.areas r);
  all : length l.areas ≡ MAX_REQUESTS;
}
