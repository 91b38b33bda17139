-- What waits to be extended, and in which order.
use Rattle.std.specs.Prelude.{◌≡◌, ◌⊎◌, ◌+◌, ◌≤◌, ◌%◌, nat_lt, if◌then◌else◌, List, map, length, Contains}
use Rattle.std.specs.Ordering.{nat_cmp, ordering_then}
use Rattle.std.specs.declared.cmp.Ordering.{Ordering}
use Rattle.std.specs.declared.cmp.Reverse.{Reverse}
use Rattle.bucket.specs.declared.id.Id.{Id}
use Rattle.bucket.specs.declared.limits.TheConstants.{BUCKETS}
use Rattle.closer.specs.declared.wait.Wait.{Wait}
use Rattle.strip_model.specs.declared.end.End.TheVariants.{Forward, Backward}

-- the name of the label that waits; of a root its side alone counts
abbrev pub id_of : Wait → Id
id_of w = record { end = if nat_lt w.shelf BUCKETS then Forward else Backward; bucket = w.shelf % BUCKETS; index = w.index }

-- the order of a heap that gives the least first: by rank, and of equal ranks by bucket and id
abbrev pub heap_order : Reverse Wait → Reverse Wait → Ordering
heap_order x y =
    ordering_then (nat_cmp y.0.rank x.0.rank) (ordering_then (nat_cmp y.0.shelf x.0.shelf) (nat_cmp y.0.index x.0.index))

-- what waits in a heap
abbrev pub waits_of : List (Reverse Wait) → List Wait
waits_of items = map (λ (r : Reverse Wait). r.0) items

-- one more waits
pub record Joins (w : Wait) (old new : List Wait) : Type 0 where
  pub joined : Contains new w
  pub kept : (v : Wait) → Contains old v → Contains new v
  pub only : (v : Wait) → Contains new v → Contains old v ⊎ (v ≡ w)
  pub len : length new ≡ length old + 1

-- one waits no more, which had the least rank of all
pub record Leaves (w : Wait) (old new : List Wait) : Type 0 where
  pub was : Contains old w
  pub kept : (v : Wait) → Contains old v → Contains new v ⊎ (v ≡ w)
  pub only : (v : Wait) → Contains new v → Contains old v
  pub least : (v : Wait) → Contains new v → w.rank ≤ v.rank
  pub len : length new + 1 ≡ length old
