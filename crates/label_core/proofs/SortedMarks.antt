-- Marks sorted by bucket, note after note.
use Rattle.std.proofs.Common.{◌≡◌, ℕ, ◌+◌, ◌<◌, ◌≤◌, ◌==◌, true, false, true≢false, List, [], ◌∷◌, ◌++◌, map, length, take, take_all, filter, get_or, set, replicate, sym, ◌∙◌, ap, inl, inr, arith}
use Rattle.std.proofs.lemmas.Bool.{cases_eq, and_parts, and_from, eqb-true, eq-eqb, false_from_ne_true}
use Rattle.std.proofs.lemmas.List.{length-replicate, length-set, get_or-replicate, get_or-set_same, get_or-set_other}
use Rattle.bucket.specs.declared.limits.TheConstants.{BUCKETS}
use Rattle.label_core.proofs.LogParts.{marks_more, marks_same, side_more}
use Rattle.label_core.specs.CoreState.{CoreState, Note, Retires, Cuts, marked_by, IsThere, NamesThere}
use Rattle.label_core.specs.LogOf.{mark_of, is_in_bucket, by_bucket}
use Rattle.label_core.specs.SortedMarks.{AreSorted}
use Rattle.proof_log.specs.Labels.{same_end}
use Rattle.proof_log.specs.declared.mark.Mark.{Mark}
use Rattle.strip_model.specs.declared.end.End.{End}

-- none are sorted at first
pub sorted_none : (s : CoreState) (e : End) (sorted : List (List Mark)) → sorted ≡ replicate BUCKETS [] → AreSorted s e [] sorted
sorted_none s e sorted is =
    let none : List Mark = [] in
    record {
      size = ap (λ (xs : List (List Mark)). length xs) is ∙ length-replicate BUCKETS none;
      each = λ b below. ap (λ (xs : List (List Mark)). get_or xs b []) is ∙ get_or-replicate BUCKETS b none none below;
    }

-- a bucket after a mark of this side came to its own
bucket_more : (s : CoreState) (e : End) (k b : ℕ) (note : Note) (sorted : List (List Mark)) → AreSorted s e (take k s.notes) sorted → k < length s.notes
    → note ≡ get_or s.notes k note → same_end (marked_by note).end e ≡ true → b < BUCKETS
    → get_or (set sorted (marked_by note).bucket (get_or sorted (marked_by note).bucket [] ++ mark_of s note ∷ [])) b []
    ≡ map (mark_of s) (filter (is_in_bucket e b) (take (k + 1) s.notes))
bucket_more s e k b note sorted so_far below is inside small = elim (cases_eq b (marked_by note).bucket) [
  | inl same ↦
      let at : get_or (set sorted (marked_by note).bucket (get_or sorted (marked_by note).bucket [] ++ mark_of s note ∷ [])) b []
      ≡ get_or sorted b [] ++ mark_of s note ∷ [] =
      ap (λ (n : ℕ). get_or (set sorted n (get_or sorted n [] ++ mark_of s note ∷ [])) b []) (sym same)
      ∙ get_or-set_same sorted b (get_or sorted b [] ++ mark_of s note ∷ []) [] (omega (arith, small, so_far.size)) in
      at ∙ marks_more s e b k note (get_or sorted b []) [] below is (so_far.each b small)
      (and_from (same_end (marked_by note).end e) ((marked_by note).bucket == b) inside (eq-eqb (marked_by note).bucket b (sym same)))
  | inr other ↦
      get_or-set_other sorted (marked_by note).bucket b (get_or sorted (marked_by note).bucket [] ++ mark_of s note ∷ []) [] other
      ∙ marks_same s e b k note (get_or sorted b []) [] below is (so_far.each b small)
      (false_from_ne_true (is_in_bucket e b note) (λ h. other (sym (eqb-true (marked_by note).bucket b (and_parts (same_end (marked_by note).end e) ((marked_by note).bucket == b) h).1))))
]

-- a mark of this side comes to those of its bucket
pub sorted_more : (s : CoreState) (e : End) (k : ℕ) (note : Note) (sorted more : List (List Mark)) → AreSorted s e (take k s.notes) sorted → k < length s.notes
    → note ≡ get_or s.notes k note → same_end (marked_by note).end e ≡ true
    → more ≡ set sorted (marked_by note).bucket (get_or sorted (marked_by note).bucket [] ++ mark_of s note ∷ [])
    → AreSorted s e (take (k + 1) s.notes) more
sorted_more s e k note sorted more so_far below is inside changed = record {
  size = ap (λ (xs : List (List Mark)). length xs) changed
      ∙ length-set sorted (marked_by note).bucket (get_or sorted (marked_by note).bucket [] ++ mark_of s note ∷ []) ∙ so_far.size;
  each = λ b small. ap (λ (xs : List (List Mark)). get_or xs b []) changed ∙ bucket_more s e k b note sorted so_far below is inside small;
}

-- a mark of the other side doesn't
pub sorted_same : (s : CoreState) (e : End) (k : ℕ) (note : Note) (sorted : List (List Mark)) → AreSorted s e (take k s.notes) sorted → k < length s.notes
    → note ≡ get_or s.notes k note → same_end (marked_by note).end e ≡ false → AreSorted s e (take (k + 1) s.notes) sorted
sorted_same s e k note sorted so_far below is outside = record {
  size = so_far.size;
  each = λ b small. marks_same s e b k note (get_or sorted b []) [] below is (so_far.each b small)
      (false_from_ne_true (is_in_bucket e b note) (λ h. true≢false (sym (and_parts (same_end (marked_by note).end e) ((marked_by note).bucket == b) h).0 ∙ outside)));
}

-- and at the end all are there
pub sorted_all : (s : CoreState) (e : End) (k : ℕ) (sorted : List (List Mark)) → length s.notes ≤ k → AreSorted s e (take k s.notes) sorted → AreSorted s e s.notes sorted
sorted_all s e k sorted end so_far = record {
  size = so_far.size;
  each = λ b small. so_far.each b small ∙ ap (λ (notes : List Note). map (mark_of s) (filter (is_in_bucket e b) notes)) (take_all k s.notes end);
}

-- the marks of a side with those of one bucket more
pub side_sorted : (s : CoreState) (e : End) (b : ℕ) (sorted : List (List Mark)) (marks more front : List Mark) → AreSorted s e s.notes sorted → b < BUCKETS
    → marks ≡ front ++ map (mark_of s) (by_bucket e b s.notes) → more ≡ marks ++ get_or sorted b []
    → more ≡ front ++ map (mark_of s) (by_bucket e (b + 1) s.notes)
side_sorted s e b sorted marks more front all small so_far is =
    side_more s e b marks more front so_far (is ∙ ap (λ (xs : List Mark). marks ++ xs) (all.each b small))

-- the label of a mark is there where those that it names are
pub marked_there : (s : CoreState) (note : Note) → NamesThere s note → IsThere s (marked_by note)
marked_there s (Retires label by) there = there.0
marked_there s (Cuts label) there = there
