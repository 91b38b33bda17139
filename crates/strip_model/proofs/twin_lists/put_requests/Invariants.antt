use Rattle.std.proofs.Common.{◌≡◌, take}
use Rattle.strip_model.specs.Twins.{requests_in}
use Rattle.strip_model.proofs.twin_lists.put_requests.Given as goal

-- the requests of the strips so far stand in the first places
abbrev pub invariant-loop-i : goal.invariant-loop-i
invariant-loop-i l = take l.i l.requests ≡ requests_in (take l.i l.strips)
