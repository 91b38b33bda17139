-- The marks of a side, sorted by bucket, as the writer of a log makes them.
use Rattle.std.specs.Prelude.{◌≡◌, ℕ, ◌<◌, List, [], length, map, filter, get_or}
use Rattle.std.specs.declared.alloc.Global.{Global}
use Rattle.std.specs.declared.vec.Vec.{Vec}
use Rattle.bucket.specs.declared.limits.TheConstants.{BUCKETS}
use Rattle.label_core.specs.CoreState.{CoreState, Note}
use Rattle.label_core.specs.LogOf.{mark_of, is_in_bucket}
use Rattle.proof_log.specs.declared.mark.Mark.{Mark}
use Rattle.strip_model.specs.declared.end.End.{End}

-- marks that are kept, as contracts see them
abbrev pub lists_of : List (Vec Mark Global) → List (List Mark)
lists_of sorted = map (λ (marks : Vec Mark Global). marks.items) sorted

-- for each bucket of the side its marks among these
pub record AreSorted (s : CoreState) (e : End) (notes : List Note) (sorted : List (List Mark)) : Type 0 where
  pub size : length sorted ≡ BUCKETS
  pub each : (b : ℕ) → b < BUCKETS → get_or sorted b [] ≡ map (mark_of s) (filter (is_in_bucket e b) notes)
