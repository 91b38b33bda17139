use Rattle.std.proofs.Common.{◌≡◌, slice_index}
use Rattle.strip_model.specs.Gain.{sum_below, share_at}
use Rattle.strip_model.proofs.gain.gain_with.Given as goal

-- the gains of the requests so far
abbrev pub invariant-loop-request : goal.invariant-loop-request
invariant-loop-request l = l.gain ≡ sum_below l.request (λ r. share_at l.instance r (slice_index l.areas r))
