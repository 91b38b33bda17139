-- Parts of a log, as loops make them.
use Rattle.std.proofs.Common.{◌≡◌, ℕ, zero, suc, ◌+◌, ◌<◌, ◌≤◌, true, false, cond, List, [], ◌∷◌, ◌++◌, map, length, take, filter, get_or, sum_by, take_all, length-append, append-nil, append_assoc, add-one, refl, sym, ◌∙◌, ap, arith}
use Rattle.std.proofs.lemmas.Bool.{cond-true, cond-false}
use Rattle.std.proofs.lemmas.List.{length-map, take_more, map_more, map-append}
use Rattle.std.proofs.lemmas.List.Concat.{flat_map-append}
use Rattle.std.proofs.lemmas.List.Elements.{filter_more}
use Rattle.std.proofs.lemmas.List.Sums.{sum_by-cons}
use Rattle.label_list.specs.Labels.{Held, no_held}
use Rattle.bucket.specs.declared.id.Id.{Id}
use Rattle.bucket.specs.declared.limits.TheConstants.{BUCKETS}
use Rattle.label_core.proofs.Cores.{IsOrderly-reached}
use Rattle.label_core.proofs.Lookups.{bucket_there}
use Rattle.label_core.proofs.Numbers.{number-below}
use Rattle.label_core.specs.CoreState.{CoreState, Note, buckets_of, labels_in, held_at, path_of, IsThere}
use Rattle.label_core.specs.LogOf.{items_of, all_paths, number, mark_of, is_in_bucket, by_bucket, in_order}
use Rattle.label_core.specs.Machine.{Machine, IsReached, count_of}
use Rattle.proof_log.specs.Labels.{paths_in}
use Rattle.proof_log.specs.declared.log.Log.{Log}
use Rattle.proof_log.specs.declared.mark.Mark.{Mark}
use Rattle.strip_model.specs.declared.end.End.{End}
use Rattle.strip_model.specs.declared.end.End.TheVariants.{Forward, Backward}

-- ---- paths

-- the paths of one label more
pub paths_more : (s : CoreState) (id : Id) (paths front : List (List ℕ)) (path : List ℕ) → IsThere s id → path ≡ path_of s id
    → paths ≡ front ++ map (λ h. h.path) (take id.index (labels_in s id.end id.bucket))
    → paths ++ path ∷ [] ≡ front ++ map (λ h. h.path) (take (id.index + 1) (labels_in s id.end id.bucket))
unfolding held_at
paths_more s id paths front path there is so_far =
    ap (λ (xs : List (List ℕ)). xs ++ path ∷ []) so_far
    ∙ append_assoc front (map (λ (h : Held). h.path) (take id.index (labels_in s id.end id.bucket))) (path ∷ [])
    ∙ ap (λ (x : List ℕ). front ++ (map (λ (h : Held). h.path) (take id.index (labels_in s id.end id.bucket)) ++ x ∷ [])) is
    ∙ ap (λ (xs : List (List ℕ)). front ++ xs) (sym (map_more (λ (h : Held). h.path) (labels_in s id.end id.bucket) id.index no_held there))

-- the paths of one bucket more
pub buckets_more : (s : CoreState) (e : End) (b : ℕ) (paths more : List (List ℕ)) → b < length (buckets_of s e) → paths ≡ all_paths (take b (buckets_of s e))
    → more ≡ paths ++ map (λ h. h.path) (labels_in s e b) → more ≡ all_paths (take (b + 1) (buckets_of s e))
unfolding labels_in
buckets_more s e b paths more below so_far is =
    is ∙ ap (λ (xs : List (List ℕ)). xs ++ map (λ (h : Held). h.path) (get_or (buckets_of s e) b [])) so_far
    ∙ ap (λ (xs : List (List ℕ)). all_paths (take b (buckets_of s e)) ++ xs) (sym (append-nil (map (λ (h : Held). h.path) (get_or (buckets_of s e) b []))))
    ∙ sym (flat_map-append (λ (bucket : List Held). map (λ (h : Held). h.path) bucket) (take b (buckets_of s e)) (get_or (buckets_of s e) b [] ∷ []))
    ∙ ap (λ (bs : List (List Held)). all_paths bs) (sym (take_more (buckets_of s e) b [] below))

pub buckets_size : (m : Machine) → IsReached m → (e : End) → length (buckets_of m.state e) ≡ BUCKETS
buckets_size m reached e = (IsOrderly-reached m reached).size e

pub buckets_all : (m : Machine) → IsReached m → (e : End) (paths : List (List ℕ)) → paths ≡ all_paths (take BUCKETS (buckets_of m.state e))
    → paths ≡ all_paths (buckets_of m.state e)
buckets_all m reached e paths is =
    is ∙ ap (λ (bs : List (List Held)). all_paths bs) (take_all BUCKETS (buckets_of m.state e) (omega (arith, buckets_size m reached e)))

-- ---- numbers

-- fewer buckets have no more paths
before-le : (buckets : List (List Held)) (b c : ℕ) → b ≤ c → length (all_paths (take b buckets)) ≤ length (all_paths (take c buckets))
before-le buckets zero c le = omega arith
before-le [] (suc b) c le = omega arith
before-le (x ∷ buckets) (suc b) zero le = absurd (omega (arith, le))
before-le (x ∷ buckets) (suc b) (suc c) le =
    omega (
      arith,
      before-le buckets b c (omega (arith, le)),
      length-append (map (λ (h : Held). h.path) x) (all_paths (take b buckets)),
      length-append (map (λ (h : Held). h.path) x) (all_paths (take c buckets)),
    )

length-all_paths : (buckets : List (List Held)) → length (all_paths buckets) ≡ sum_by (λ labels. length labels) buckets
length-all_paths [] = refl
length-all_paths (x ∷ buckets) =
    length-append (map (λ (h : Held). h.path) x) (all_paths buckets)
    ∙ ap (λ (n : ℕ). n + length (all_paths buckets)) (length-map x (λ (h : Held). h.path))
    ∙ ap (λ (n : ℕ). length x + n) (length-all_paths buckets) ∙ sym (sum_by-cons (λ (labels : List Held). length labels) x buckets)

-- a side has no more labels than there are
pub side-le : (s : CoreState) (e : End) → length (all_paths (buckets_of s e)) ≤ count_of s
side-le s Forward = omega (arith, length-all_paths s.forward)
side-le s Backward = omega (arith, length-all_paths s.backward)

-- the sum so far with one bucket more
pub number_more : (s : CoreState) (e : End) (b index n : ℕ) → b < length (buckets_of s e) → n ≡ length (all_paths (take b (buckets_of s e))) + index
    → n + length (labels_in s e b) ≡ length (all_paths (take (b + 1) (buckets_of s e))) + index
unfolding labels_in
number_more s e b index n below so_far =
    let paths : all_paths (take (b + 1) (buckets_of s e))
    ≡ all_paths (take b (buckets_of s e)) ++ map (λ h. h.path) (get_or (buckets_of s e) b []) =
    sym (buckets_more s e b (all_paths (take b (buckets_of s e))) (all_paths (take b (buckets_of s e)) ++ map (λ h. h.path) (get_or (buckets_of s e) b [])) below
    refl refl) in
    omega (
      arith,
      so_far,
      ap (λ (xs : List (List ℕ)). length xs) paths,
      length-append (all_paths (take b (buckets_of s e))) (map (λ (h : Held). h.path) (get_or (buckets_of s e) b [])),
      length-map (get_or (buckets_of s e) b []) (λ (h : Held). h.path),
    )

-- it stays below the number of labels
pub number_small : (s : CoreState) (id : Id) (b n : ℕ) → IsThere s id → b < id.bucket → n ≡ length (all_paths (take b (buckets_of s id.end))) + id.index
    → n + length (labels_in s id.end b) < count_of s
unfolding number
number_small s id b n there below so_far =
    omega (
      arith,
      number_more s id.end b id.index n (omega (arith, below, bucket_there s id there)) so_far,
      before-le (buckets_of s id.end) (b + 1) id.bucket (omega (arith, below)),
      number-below s id there,
      side-le s id.end,
    )

pub bucket_small : (m : Machine) → IsReached m → (id : Id) → IsThere m.state id → id.bucket < BUCKETS
bucket_small m reached id there = omega (arith, bucket_there m.state id there, buckets_size m reached id.end)

-- ---- marks

-- one mark more of a bucket
pub marks_more : (s : CoreState) (e : End) (b k : ℕ) (note : Note) (marks front : List Mark) → k < length s.notes → note ≡ get_or s.notes k note
    → marks ≡ front ++ map (mark_of s) (filter (is_in_bucket e b) (take k s.notes)) → is_in_bucket e b note ≡ true
    → marks ++ mark_of s note ∷ [] ≡ front ++ map (mark_of s) (filter (is_in_bucket e b) (take (k + 1) s.notes))
marks_more s e b k note marks front below is so_far inside =
    let last : get_or s.notes k note ≡ note = sym is in
    let step : filter (is_in_bucket e b) (take (k + 1) s.notes) ≡ filter (is_in_bucket e b) (take k s.notes) ++ note ∷ [] =
    filter_more (is_in_bucket e b) s.notes k note below
    ∙ ap (λ (xs : List Note). filter (is_in_bucket e b) (take k s.notes) ++ xs)
    (ap (λ (n : Note). cond (is_in_bucket e b n) (n ∷ []) []) last ∙ cond-true (is_in_bucket e b note) (note ∷ []) [] inside) in
    ap (λ (xs : List Mark). xs ++ mark_of s note ∷ []) so_far
    ∙ append_assoc front (map (mark_of s) (filter (is_in_bucket e b) (take k s.notes))) (mark_of s note ∷ [])
    ∙ ap (λ (xs : List Mark). front ++ xs) (sym (map-append (mark_of s) (filter (is_in_bucket e b) (take k s.notes)) (note ∷ [])))
    ∙ ap (λ (xs : List Note). front ++ map (mark_of s) xs) (sym step)

-- or none
pub marks_same : (s : CoreState) (e : End) (b k : ℕ) (note : Note) (marks front : List Mark) → k < length s.notes → note ≡ get_or s.notes k note
    → marks ≡ front ++ map (mark_of s) (filter (is_in_bucket e b) (take k s.notes)) → is_in_bucket e b note ≡ false
    → marks ≡ front ++ map (mark_of s) (filter (is_in_bucket e b) (take (k + 1) s.notes))
marks_same s e b k note marks front below is so_far outside =
    let step : filter (is_in_bucket e b) (take (k + 1) s.notes) ≡ filter (is_in_bucket e b) (take k s.notes) =
    filter_more (is_in_bucket e b) s.notes k note below
    ∙ ap (λ (xs : List Note). filter (is_in_bucket e b) (take k s.notes) ++ xs)
    (ap (λ (n : Note). cond (is_in_bucket e b n) (n ∷ []) []) (sym is) ∙ cond-false (is_in_bucket e b note) (note ∷ []) [] outside)
    ∙ append-nil (filter (is_in_bucket e b) (take k s.notes)) in
    so_far ∙ ap (λ (xs : List Note). front ++ map (mark_of s) xs) (sym step)

-- the marks of one bucket more
pub side_more : (s : CoreState) (e : End) (b : ℕ) (marks more front : List Mark) → marks ≡ front ++ map (mark_of s) (by_bucket e b s.notes)
    → more ≡ marks ++ map (mark_of s) (filter (is_in_bucket e b) s.notes) → more ≡ front ++ map (mark_of s) (by_bucket e (b + 1) s.notes)
side_more s e b marks more front so_far is =
    is ∙ ap (λ (xs : List Mark). xs ++ map (mark_of s) (filter (is_in_bucket e b) s.notes)) so_far
    ∙ append_assoc front (map (mark_of s) (by_bucket e b s.notes)) (map (mark_of s) (filter (is_in_bucket e b) s.notes))
    ∙ ap (λ (xs : List Mark). front ++ xs) (sym (map-append (mark_of s) (by_bucket e b s.notes) (filter (is_in_bucket e b) s.notes)))
    ∙ ap (λ (n : ℕ). front ++ map (mark_of s) (by_bucket e n s.notes)) (sym (add-one b))

-- the marks of both sides
pub both_sides : (s : CoreState) (none forward all : List Mark) → none ≡ [] → forward ≡ none ++ map (mark_of s) (by_bucket Forward BUCKETS s.notes)
    → all ≡ forward ++ map (mark_of s) (by_bucket Backward BUCKETS s.notes) → all ≡ map (mark_of s) (in_order s.notes)
unfolding in_order
both_sides s none forward all empty first then =
    then
    ∙ ap (λ (xs : List Mark). xs ++ map (mark_of s) (by_bucket Backward BUCKETS s.notes))
    (first ∙ ap (λ (xs : List Mark). xs ++ map (mark_of s) (by_bucket Forward BUCKETS s.notes)) empty)
    ∙ sym (map-append (mark_of s) (by_bucket Forward BUCKETS s.notes) (by_bucket Backward BUCKETS s.notes))

-- the paths of a log, from those of its sides
pub paths_from_sides : (s : CoreState) (log : Log) → items_of log.forward.items ≡ all_paths s.forward → items_of log.backward.items ≡ all_paths s.backward
    → (e : End) → paths_in log e ≡ all_paths (buckets_of s e)
paths_from_sides s log forward backward Forward = forward
paths_from_sides s log forward backward Backward = backward
