-- The log of a state: labels numbered side by side, by bucket and then by place; marks by bucket, and in each in the order in
-- which they came.
use Rattle.std.specs.Prelude.{◌≡◌, ℕ, zero, suc, ◌+◌, Bool, ◌&&◌, ◌==◌, List, [], ◌++◌, map, length, take, filter, flat_map}
use Rattle.label_core.specs.CoreState.{CoreState, Note, Retires, Cuts, marked_by, buckets_of}
use Rattle.std.specs.declared.alloc.Global.{Global}
use Rattle.std.specs.declared.vec.Vec.{Vec}
use Rattle.label_list.specs.Labels.{Held}
use Rattle.bucket.specs.declared.limits.TheConstants.{BUCKETS}
use Rattle.bucket.specs.declared.id.Id.{Id}
use Rattle.proof_log.specs.Labels.{same_end, paths_in}
use Rattle.proof_log.specs.declared.log.Log.{Log}
use Rattle.proof_log.specs.declared.mark.Mark.{Mark}
use Rattle.proof_log.specs.declared.mark.Mark.TheVariants.{Retire, Cut}
use Rattle.strip_model.specs.Orbit.{Orbit}
use Rattle.strip_model.specs.Plan.{gain_of}
use Rattle.strip_model.specs.declared.end.End.{End}
use Rattle.strip_model.specs.declared.end.End.TheVariants.{Forward, Backward}

-- paths that are kept, as contracts see them
abbrev pub items_of : List (Vec ℕ Global) → List (List ℕ)
items_of paths = map (λ (path : Vec ℕ Global). path.items) paths

-- the paths of buckets, bucket after bucket
abbrev pub all_paths : List (List Held) → List (List ℕ)
all_paths buckets = flat_map (λ bucket. map (λ h. h.path) bucket) buckets

-- the number of a label in its side: as many labels as stand in earlier buckets, and its place in its own
unfoldable pub number : CoreState → Id → ℕ
number s id = length (all_paths (take id.bucket (buckets_of s id.end))) + id.index

-- the mark of the log
abbrev pub mark_of : CoreState → Note → Mark
mark_of s (Retires label by) = Retire label.end (number s label) (number s by)
mark_of s (Cuts label) = Cut label.end (number s label)

-- whether the label that is marked stands in this bucket
abbrev pub is_in_bucket : End → ℕ → Note → Bool
is_in_bucket e b note = same_end (marked_by note).end e && (marked_by note).bucket == b

-- the marks of the first n buckets of a side, bucket after bucket
abbrev pub by_bucket : End → ℕ → List Note → List Note
by_bucket e zero notes = []
by_bucket e (suc n) notes = by_bucket e n notes ++ filter (is_in_bucket e n) notes

-- all marks: those of the forward side, then those of the backward one
unfoldable pub in_order : List Note → List Note
in_order notes = by_bucket Forward BUCKETS notes ++ by_bucket Backward BUCKETS notes

-- The log has this cut, the incumbent with its gain, the paths of both sides and the marks.
pub record IsLogOf (I : Orbit) (H : ℕ) (s : CoreState) (log : Log) : Type 0 where
  pub cut : log.cut ≡ H
  pub gain : log.gain ≡ gain_of I s.incumbent
  pub plan : log.plan.items ≡ s.incumbent
  pub paths : (e : End) → paths_in log e ≡ all_paths (buckets_of s e)
  pub marks : log.marks.items ≡ map (mark_of s) (in_order s.notes)
