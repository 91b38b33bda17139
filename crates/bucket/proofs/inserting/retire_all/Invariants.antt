use Rattle.std.proofs.Common.{◌≡◌, take, drop}
use Rattle.bucket.specs.Buckets.{held_in, grown, retirements}
use Rattle.bucket.specs.Stores.{AreRetirable}
use Rattle.bucket.proofs.inserting.retire_all.Given as goal

-- those before the next one are retired, and the others still can be
abbrev pub invariant-loop-id : goal.invariant-loop-id
invariant-loop-id l =
    (l.store ≡ grown l.fn.store (retirements l.by (take l.id-index l.ids)))
    × AreRetirable l.store.side (held_in l.store) l.by (drop l.id-index l.ids)
