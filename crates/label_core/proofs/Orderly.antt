-- What is true of every state that legal steps reach.
use Rattle.std.proofs.Common.{◌≡◌, ◌≢◌, ℕ, ◌≤◌, not, false, List, [], length, sym, subst, arith}
use Rattle.label_core.proofs.EachAfter.{EachAfter}
use Rattle.label_core.specs.CoreState.{CoreState, Note, Retires, Cuts, is_noted, marked_by, buckets_of, path_of, state_of, IsThere}
use Rattle.bucket.specs.Histories.{bucket_of}
use Rattle.label_list.specs.Labels.{is_live}
use Rattle.bucket.specs.declared.limits.TheConstants.{BUCKETS}
use Rattle.bucket.specs.declared.id.Id.{Id}
use Rattle.strip_model.specs.Dominance.{Dominates}
use Rattle.strip_model.specs.LabelPath.{LabelPath}
use Rattle.strip_model.specs.Orbit.{Orbit}
use Rattle.strip_model.specs.Plan.{Feasible, gain_of}
use Rattle.strip_model.specs.Reach.{bound}
use Rattle.strip_model.specs.Side.{facing, face_of}
use Rattle.strip_model.specs.declared.end.End.{End}

-- after these earlier marks the label may be retired by the other, which stands in its bucket
pub record RetiresWell (I : Orbit) (s : CoreState) (earlier : List Note) (id by : Id) : Type 0 where
  pub there : IsThere s id
  pub by_there : IsThere s by
  pub one_side : by.end ≡ id.end
  pub one_bucket : by.bucket ≡ id.bucket
  pub differ : id ≢ by
  pub unmarked : is_noted id earlier ≡ false
  pub by_unmarked : is_noted by earlier ≡ false
  pub dominated : Dominates (facing I id.end) (path_of s by) (path_of s id)

-- after these earlier marks the label may be cut
pub record CutsWell (I : Orbit) (s : CoreState) (earlier : List Note) (id : Id) : Type 0 where
  pub there : IsThere s id
  pub unmarked : is_noted id earlier ≡ false
  pub bounded : bound (facing I id.end) (path_of s id) ≤ gain_of I s.incumbent

abbrev pub MarksWell : Orbit → CoreState → List Note → Note → Type 0
MarksWell I s earlier (Retires id by) = RetiresWell I s earlier id by
MarksWell I s earlier (Cuts id) = CutsWell I s earlier id

-- The incumbent is feasible; labels have distinct label paths, each in its bucket; marks keep their rules, each after those
-- before it; and the labels that live are those without a mark.
pub record IsOrderly (I : Orbit) (H : ℕ) (s : CoreState) : Type 0 where
  pub size : (e : End) → length (buckets_of s e) ≡ BUCKETS
  pub feasible : Feasible I s.incumbent
  pub is_path : (id : Id) → IsThere s id → LabelPath (face_of I H id.end) (path_of s id)
  pub placed : (id : Id) → IsThere s id → bucket_of (path_of s id) ≡ id.bucket
  pub once : (a b : Id) → IsThere s a → IsThere s b → a.end ≡ b.end → path_of s a ≡ path_of s b → a ≡ b
  pub marked : EachAfter (MarksWell I s) [] s.notes
  pub live_is : (id : Id) → IsThere s id → is_live (state_of s id) ≡ not (is_noted id s.notes)

-- the marked label of a mark that keeps its rules is there
pub marked_there : (I : Orbit) (s : CoreState) (earlier : List Note) (note : Note) → MarksWell I s earlier note → IsThere s (marked_by note)
marked_there I s earlier (Retires id by) well = well.there
marked_there I s earlier (Cuts id) well = well.there

-- each label stays with its path, and the incumbent gains no less
pub record Grows (I : Orbit) (s t : CoreState) : Type 0 where
  pub there : (id : Id) → IsThere s id → IsThere t id
  pub path : (id : Id) → IsThere s id → path_of t id ≡ path_of s id
  pub gain : gain_of I s.incumbent ≤ gain_of I t.incumbent

-- marks then keep their rules
pub MarksWell-grows : (I : Orbit) (s t : CoreState) → Grows I s t → (earlier : List Note) (note : Note) → MarksWell I s earlier note
    → MarksWell I t earlier note
MarksWell-grows I s t grows earlier (Retires id by) well = record {
  there = grows.there id well.there;
  by_there = grows.there by well.by_there;
  one_side = well.one_side;
  one_bucket = well.one_bucket;
  differ = well.differ;
  unmarked = well.unmarked;
  by_unmarked = well.by_unmarked;
  dominated =
      subst (λ (b : List ℕ). Dominates (facing I id.end) b (path_of t id)) (sym (grows.path by well.by_there))
      (subst (λ (a : List ℕ). Dominates (facing I id.end) (path_of s by) a) (sym (grows.path id well.there)) well.dominated);
}
MarksWell-grows I s t grows earlier (Cuts id) well =
    let bounded : bound (facing I id.end) (path_of t id) ≤ gain_of I s.incumbent =
    subst (λ (a : List ℕ). bound (facing I id.end) a ≤ gain_of I s.incumbent) (sym (grows.path id well.there)) well.bounded in
    record {
      there = grows.there id well.there;
      unmarked = well.unmarked;
      bounded = omega (arith, bounded, grows.gain);
    }
