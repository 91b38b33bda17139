use Rattle.std.proofs.Common.{◌≡◌, ℕ, ◌==◌, ◌&&◌, nat_lt}
use Rattle.strip_model.specs.Directed.{has}
use Rattle.strip_model.specs.Orbit.{strip_in}
use Rattle.label.proofs.tables.strips_of_request.Given as goal

-- those of the strips before are members that are of the request
abbrev pub invariant-loop-i : goal.invariant-loop-i
invariant-loop-i l = (k : ℕ) → has k l.members ≡ (nat_lt k l.i && (strip_in l.strips k).request == l.request)
