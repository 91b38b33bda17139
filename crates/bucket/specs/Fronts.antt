-- The antichains of a bucket: for each last directed strip the live labels that end with it, in rising order of their starts.
use Rattle.std.specs.Prelude.{◌≡◌, ℕ, ◌+◌, ◌*◌, ◌<◌, true, List, [], length, slice_index_or}
use Rattle.antichain.specs.Antichains.{Row, ids_of, IsAntichainOf}
use Rattle.antichain.specs.declared.member.Member.{Member}
use Rattle.bucket.specs.Buckets.{Bin, held_in}
use Rattle.bucket.specs.Histories.{Antichain}
use Rattle.bucket.specs.declared.limits.TheConstants.{BUCKETS, FRONTS}
use Rattle.label_list.specs.Labels.{Held, IsLive, path_of, last_of}
use Rattle.strip_model.specs.Directed.{has}
use Rattle.strip_model.specs.Side.{Face}

-- the label is live and ends with x
pub record EndsWith (hs : List Held) (x k : ℕ) : Type 0 where
  pub live : IsLive hs k
  pub ends : last_of (path_of hs k) ≡ x

-- The members are just the live labels that end with x, and an antichain.
pub record IsFront (S : Face) (hs : List Held) (x : ℕ) (members : List Member) : Type 0 where
  pub sound : (k : ℕ) → has k (ids_of members) ≡ true → EndsWith hs x k
  pub complete : (k : ℕ) → EndsWith hs x k → has k (ids_of members) ≡ true
  pub antichain : IsAntichainOf S (λ k. path_of hs k) members

-- the antichains of the bucket with this number: that of the directed strip x stands at x / BUCKETS
pub record HasFronts (S : Face) (number : ℕ) (hs : List Held) (rows : List Row) : Type 0 where
  pub size : length rows ≡ FRONTS
  pub each : (p : ℕ) → p < FRONTS → IsFront S hs (p * BUCKETS + number) (slice_index_or rows p (record { members = []; room = 0 })).members

-- what a bucket keeps beside its store: of its live labels none dominates another, and its antichains have them all
pub record IsKeptBucket (b : Bin) (rows : List Row) : Type 0 where
  pub antichain : Antichain b.side (held_in b)
  pub fronts : HasFronts b.side b.number (held_in b) rows
