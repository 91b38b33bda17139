-- What a search by many threads leaves: the buckets of both sides, and a plan.
use Rattle.std.specs.Prelude.{◌≡◌, ℕ, List, length, Some, slice_get}
use Rattle.bucket.specs.Buckets.{Bin, IsBucket}
use Rattle.bucket.specs.declared.limits.TheConstants.{BUCKETS}
use Rattle.bucket.specs.declared.trace.Trace.{Trace}
use Rattle.strip_model.specs.Orbit.{Orbit}
use Rattle.strip_model.specs.Side.{Face}

-- bucket k of this side, whose history is legal and whose live labels don't dominate one another
pub record IsBucketAt (S : Face) (k : ℕ) (b : Bin) : Type 0 where
  pub side : b.side ≡ S
  pub number : b.number ≡ k
  pub sound : IsBucket b

-- all buckets of the side, in the order of their numbers
pub record AreBucketsOf (S : Face) (bins : List Bin) : Type 0 where
  pub count : length bins ≡ BUCKETS
  pub each : (k : ℕ) (b : Bin) → slice_get bins k ≡ Some b → IsBucketAt S k b

-- a trace of these two sides, whose plan is of this instance
pub record IsTraceOf (J : Orbit) (F B : Face) (trace : Trace) : Type 0 where
  pub forward : AreBucketsOf F trace.forward.items
  pub backward : AreBucketsOf B trace.backward.items
  pub plan : trace.plan.instance ≡ J
