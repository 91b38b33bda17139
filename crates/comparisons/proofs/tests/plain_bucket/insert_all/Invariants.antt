use Rattle.std.proofs.Common.{◌≡◌}
use Rattle.comparisons.proofs.tests.plain_bucket.insert_all.Given as goal

-- the bucket is still the same one
abbrev pub invariant-loop-at : goal.invariant-loop-at
invariant-loop-at l = (l.bucket.side ≡ l.fn.bucket.side) × (l.bucket.number ≡ l.fn.bucket.number)
