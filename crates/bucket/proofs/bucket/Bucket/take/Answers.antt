use Rattle.bucket.proofs.Insertions.{IsKeptBucket-taken}
use Rattle.bucket.proofs.bucket.Bucket.take.Goals as goal

pub invariant_of-self : goal.invariant_of-self
invariant_of-self c =
    IsKeptBucket-taken c.self.inside.store c.take.new.self c.args.id c.take.result c.self.inside.fronts.items
    (rw (← c.self.view_is) at c.requires) c.take.ensures c.self.invariant
