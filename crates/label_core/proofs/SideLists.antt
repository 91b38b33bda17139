-- What a side of a core holds after a change of one of its lists.
use Rattle.std.proofs.Common.{Option, Some, None, Result, Ok, Err, MatchOption, MatchResult, is_some, ◌≡◌, ◌↔◌, ℕ, ◌%◌, ◌<◌, ◌≤◌, Bool, IsTrue, List, [], ◌∷◌, ◌++◌, length, set, take, sum_by, get_or, sym, ◌∙◌, ap, subst, inl, inr, arith}
use Rattle.std.proofs.lemmas.Bool.{cases_lt, false≢true}
use Rattle.std.proofs.lemmas.List.{map-set, get_or-map, get_or_past, length-map, set-get_or, take_all}
use Rattle.std.specs.declared.alloc.AllocError.{AllocError}
use Rattle.bucket.specs.Histories.{bucket_of}
use Rattle.bucket.specs.declared.limits.TheConstants.{BUCKETS}
use Rattle.label.specs.Labels.{IsLabelOf}
use Rattle.label.specs.declared.label.Label.{Label}
use Rattle.label_core.proofs.Steps.{place_after-last}
use Rattle.label_list.specs.Labels.{Held, Listed, with_labels, path_of, IsAbsent}
use Rattle.label_core.specs.SideLists.{HasPath, Sided, sided, with_bucket}
use Rattle.strip_model.specs.Side.{Face}

-- the labels of a list are those of its bucket
pub labels_on : (S : Face) (ls : List Listed) (b : ℕ) (old : Listed) (h : Sided) → sided S ls ≡ h → b < length ls → old ≡ get_or ls b old
    → old.labels ≡ get_or h.buckets b []
labels_on S ls b old h is there at =
    ap (λ (l : Listed). l.labels) at ∙ sym (get_or-map (λ (l : Listed). l.labels) ls b old [] there)
    ∙ ap (λ (g : Sided). get_or g.buckets b []) is

-- a side of which one list has other labels
pub sided-set : (S : Face) (ls : List Listed) (b n : ℕ) (new : Listed) (labels : List Held) (h : Sided) → sided S ls ≡ h → b ≡ n → new.labels ≡ labels
    → sided S (set ls b new) ≡ with_bucket h n labels
sided-set S ls b n new labels h is same changed =
    let here : sided S (set ls b new) ≡ with_bucket h b labels =
    ap (λ (buckets : List (List Held)). with_buckets S buckets) (map-set (λ (l : Listed). l.labels) ls b new)
    ∙ ap (λ (g : Sided). with_bucket g b new.labels) is ∙ ap (λ (hs : List Held). with_bucket h b hs) changed in
    subst (λ (m : ℕ). sided S (set ls b new) ≡ with_bucket h m labels) same here
  where
    with_buckets : Face → List (List Held) → Sided
    with_buckets face buckets = record { face = face; buckets = buckets }

-- and where its labels come from those before
pub sided-change : (S : Face) (ls : List Listed) (b n : ℕ) (old new : Listed) (h : Sided) (change : List Held → List Held) → sided S ls ≡ h → b < length ls
    → b ≡ n → old ≡ get_or ls b old → new ≡ with_labels old (change old.labels)
    → sided S (set ls b new) ≡ with_bucket h n (change (get_or h.buckets n []))
sided-change S ls b n old new h change is there same at changed =
    sided-set S ls b n new (change (get_or h.buckets n [])) h is same
    (ap (λ (l : Listed). l.labels) changed ∙ ap change (labels_on S ls b old h is there at) ∙ ap (λ (m : ℕ). change (get_or h.buckets m [])) same)

-- one label more in a list is one more in its bucket, and without it the side is as it was
pub sided-add : (S : Face) (ls : List Listed) (b n : ℕ) (old new : Listed) (h : Sided) (held : Held) (r : Result ℕ AllocError) → sided S ls ≡ h → b < length ls
    → b ≡ n → old ≡ get_or ls b old
    → MatchResult r (λ id. (id ≡ length old.labels) × (new ≡ with_labels old (old.labels ++ held ∷ []))) (λ _. new ≡ old)
    → MatchResult r (λ id. (id ≡ length (get_or h.buckets n [])) × (sided S (set ls b new) ≡ with_bucket h n (get_or h.buckets n [] ++ held ∷ [])))
    (λ _. sided S (set ls b new) ≡ h)
sided-add S ls b n old new h held (Ok id) is there same at added = (
  added.0 ∙ ap (λ (hs : List Held). length hs) (labels_on S ls b old h is there at)
      ∙ ap (λ (m : ℕ). length (get_or h.buckets m [])) same,
  sided-change S ls b n old new h (λ (hs : List Held). hs ++ held ∷ []) is there same at added.1,
)
sided-add S ls b n old new h held (Err e) is there same at unchanged =
    ap (λ (l : Listed). sided S (set ls b l)) (unchanged ∙ at) ∙ ap (λ (xs : List Listed). sided S xs) (set-get_or ls b old) ∙ is

-- the number of a label's bucket
pub label_bucket : (S : Face) (label : Label) (last b : ℕ) → IsLabelOf S label → last ≡ label.last → b ≡ last % BUCKETS → b ≡ bucket_of label.path.items
label_bucket S label last b is at number =
    number ∙ ap (λ (x : ℕ). x % BUCKETS) (at ∙ sym (place_after-last S.instance label.path.items label.start label.last is.at))

-- a bucket with a label is there
pub below_buckets : (buckets : List (List Held)) (b k : ℕ) → k < length (get_or buckets b []) → b < length buckets
below_buckets buckets b k there = elim (cases_lt b (length buckets)) [
  | inl below ↦ below
  | inr past ↦ absurd (omega (arith, there, ap (λ (labels : List Held). length labels) (get_or_past buckets b [] past)))
]

-- and so is its list
pub below_lists : (S : Face) (ls : List Listed) (b n k : ℕ) (h : Sided) → sided S ls ≡ h → b ≡ n → k < length (get_or h.buckets n []) → b < length ls
below_lists S ls b n k h is same there =
    let below : n < length h.buckets = below_buckets h.buckets n k there in
    omega (arith, below, same, ap (λ (g : Sided). length g.buckets) is, length-map ls (λ (l : Listed). l.labels))

-- what the index of a list says of a path, for its bucket
pub has_path_in : (S : Face) (ls : List Listed) (b n : ℕ) (old : Listed) (h : Sided) (asked path : List ℕ) (found : Option ℕ) (has : Bool) → sided S ls ≡ h
    → b < length ls → b ≡ n → old ≡ get_or ls b old → asked ≡ path
    → MatchOption found (IsAbsent old.labels asked) (λ id. (id < length old.labels) × (path_of old.labels id ≡ asked)) → has ≡ is_some found
    → IsTrue has ↔ HasPath (get_or h.buckets n []) path
has_path_in S ls b n old h asked path found has is below same at asked_is answer told =
    let labels : old.labels ≡ get_or h.buckets n [] =
    labels_on S ls b old h is below at ∙ ap (λ (m : ℕ). get_or h.buckets m []) same in
    subst (λ (p : List ℕ). IsTrue has ↔ HasPath (get_or h.buckets n []) p) asked_is
    (subst (λ (hs : List Held). IsTrue has ↔ HasPath hs asked) labels (by_answer found has answer told))
  where
    by_answer : (o : Option ℕ) (has : Bool) → MatchOption o (IsAbsent old.labels asked) (λ id. (id < length old.labels) × (path_of old.labels id ≡ asked))
        → has ≡ is_some o → IsTrue has ↔ HasPath old.labels asked
    by_answer (Some id) has there told = (λ _. (id, there.0, there.1), λ _. told)
    by_answer None has absent told = (λ t. absurd (false≢true (sym told ∙ t)), λ at. absurd (absent at.0 at.1 at.2))

-- all labels of a side are those of all its buckets
pub total_done : (S : Face) (ls : List Listed) (h : Sided) (k total : ℕ) → sided S ls ≡ h → length ls ≡ BUCKETS → BUCKETS ≤ k
    → total ≡ sum_by (λ labels. length labels) (take k h.buckets) → total ≡ sum_by (λ labels. length labels) h.buckets
total_done S ls h k total is size past so_far =
    so_far
    ∙ ap (λ (bs : List (List Held)). sum_by (λ labels. length labels) bs)
    (take_all k h.buckets
    (omega (arith, past, size, length-map ls (λ (l : Listed). l.labels), ap (λ (g : Sided). length g.buckets) is)))
