use Rattle.std.proofs.Common.{ap}
use Rattle.bucket.specs.Buckets.{Bin}
use Rattle.bucket.proofs.Insertions.{IsKeptBucket-none}
use Rattle.bucket.proofs.bucket.Bucket.new.Goals as goal

pub invariant_of-result : goal.invariant_of-result
invariant_of-result c =
    IsKeptBucket-none c.new.result c.in_ok-empty_fronts.field-0.items (ap (λ (b : Bin). b.history) c.new.ensures)
    c.in_ok-empty_fronts.ensures.size c.in_ok-empty_fronts.ensures.empty
