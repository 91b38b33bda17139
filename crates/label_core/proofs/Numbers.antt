-- The numbers of labels in the log: each label has one, and each number is that of one label.
use Rattle.std.proofs.Common.{◌≡◌, ℕ, suc, ◌+◌, ◌-◌, ◌<◌, ◌&&◌, ◌||◌, ◌==◌, Bool, List, [], ◌∷◌, map, length, take, get_or, length-append, refl, sym, ◌∙◌, ap, ap₂, subst, inl, inr, arith}
use Rattle.std.proofs.lemmas.Bool.{cases_lt, and_parts, and_from, eqb-true, eq-eqb, false_from_ne_true}
use Rattle.std.proofs.lemmas.List.{length-map, get_or-map}
use Rattle.std.proofs.lemmas.List.Concat.{get_or-flat_map}
use Rattle.std.proofs.lemmas.List.Folds.{length-flat_map-take}
use Rattle.std.specs.List.{AllByRecursion}
use Rattle.label_list.specs.Labels.{Held, no_held}
use Rattle.bucket.specs.declared.id.Id.{Id}
use Rattle.label_core.proofs.Lookups.{bucket_there}
use Rattle.label_core.proofs.Orderly.{IsOrderly}
use Rattle.label_core.proofs.SameIds.{cases_id, same_id_same, same_id-other, same_end_same, same_end-true}
use Rattle.label_core.specs.CoreState.{CoreState, Note, Retires, Cuts, marked_by, is_noted, buckets_of, labels_in, held_at, path_of, IsThere}
use Rattle.label_core.specs.Ids.{same_id}
use Rattle.label_core.specs.LogOf.{all_paths, number, mark_of}
use Rattle.proof_log.specs.Labels.{same_end, is_mark_of, is_marked}
use Rattle.strip_model.specs.Orbit.{Orbit}
use Rattle.strip_model.specs.declared.end.End.{End}

abbrev paths_of : List Held → List (List ℕ)
paths_of bucket = map (λ h. h.path) bucket

-- a label that is there has the number of its path
pub number-below : (s : CoreState) (id : Id) → IsThere s id → number s id < length (all_paths (buckets_of s id.end))
unfolding number labels_in
number-below s id there =
    omega (
      arith,
      length-flat_map-take (λ bucket. map (λ h. h.path) bucket) (buckets_of s id.end) id.bucket [] (bucket_there s id there),
      length-map (get_or (buckets_of s id.end) id.bucket []) (λ h. h.path),
      there,
    )

pub path-number : (s : CoreState) (id : Id) → IsThere s id → get_or (all_paths (buckets_of s id.end)) (number s id) [] ≡ path_of s id
unfolding number labels_in held_at
path-number s id there =
    let labels : List Held = get_or (buckets_of s id.end) id.bucket [] in
    let in_paths : id.index < length (map (λ (h : Held). h.path) (get_or (buckets_of s id.end) id.bucket [])) =
    omega (arith, length-map (get_or (buckets_of s id.end) id.bucket []) (λ (h : Held). h.path), there) in
    get_or-flat_map (λ (bucket : List Held). map (λ (h : Held). h.path) bucket) (buckets_of s id.end) id.bucket id.index [] [] (bucket_there s id there) in_paths
    ∙ get_or-map (λ (h : Held). h.path) (get_or (buckets_of s id.end) id.bucket []) id.index no_held [] there

-- where the k-th path of buckets stands: in bucket b at place j
record StandsIn (buckets : List (List Held)) (k : ℕ) : Type 0 where
  bucket : ℕ
  place : ℕ
  bucket_below : bucket < length buckets
  place_below : place < length (get_or buckets bucket [])
  is : length (all_paths (take bucket buckets)) + place ≡ k

find_path : (buckets : List (List Held)) (k : ℕ) → k < length (all_paths buckets) → StandsIn buckets k
find_path [] k below = absurd (omega arith)
find_path (labels ∷ buckets) k below =
    let split : length (all_paths (labels ∷ buckets)) ≡ length labels + length (all_paths buckets) =
    length-append (map (λ h. h.path) labels) (all_paths buckets) ∙ ap (λ (n : ℕ). n + length (all_paths buckets)) (length-map labels (λ h. h.path)) in
    elim (cases_lt k (length labels)) [
      | inl here ↦ record { bucket = 0; place = k; bucket_below = omega arith; place_below = here; is = omega arith }
      | inr past ↦
          let found : StandsIn buckets (k - length labels) = find_path buckets (k - length labels) (omega (arith, split, below)) in
          let longer : length (all_paths (labels ∷ take found.bucket buckets)) ≡ length labels + length (all_paths (take found.bucket buckets)) =
          length-append (map (λ h. h.path) labels) (all_paths (take found.bucket buckets))
          ∙ ap (λ (n : ℕ). n + length (all_paths (take found.bucket buckets))) (length-map labels (λ h. h.path)) in
          record {
            bucket = suc found.bucket;
            place = found.place;
            bucket_below = omega (arith, found.bucket_below);
            place_below = found.place_below;
            is = omega (arith, longer, found.is, past);
          }
    ]

-- the label with this number
pub record IsNumbered (s : CoreState) (e : End) (k : ℕ) : Type 0 where
  pub id : Id
  pub side : id.end ≡ e
  pub there : IsThere s id
  pub is : number s id ≡ k

pub find_number : (s : CoreState) (e : End) (k : ℕ) → k < length (all_paths (buckets_of s e)) → IsNumbered s e k
unfolding number labels_in
find_number s e k below =
    let found : StandsIn (buckets_of s e) k = find_path (buckets_of s e) k below in
    record {
      id = record { end = e; bucket = found.bucket; index = found.place };
      side = refl;
      there = found.place_below;
      is = found.is;
    }

module _ (I : Orbit) (H : ℕ) (s : CoreState) (o : IsOrderly I H s) where
  -- labels of a side with one number are the same, since their paths are
  pub one_number : (a b : Id) → IsThere s a → IsThere s b → a.end ≡ b.end → number s a ≡ number s b → a ≡ b
  one_number a b a_there b_there side same =
      o.once a b a_there b_there side
      (sym (path-number s a a_there)
      ∙ ap₂ (λ (e : End) (k : ℕ). get_or (all_paths (buckets_of s e)) k []) side same
      ∙ path-number s b b_there)

  -- a mark of the log marks the number of a label where it came from a mark of the label
  is_mark-noted : (id label : Id) → IsThere s id → IsThere s label
      → (same_end label.end id.end && (number s label == number s id)) ≡ same_id label id
  is_mark-noted id label there label_there = elim (cases_id label id) [
    | inl same ↦
        subst (λ (x : Id). (same_end x.end id.end && (number s x == number s id)) ≡ same_id x id) (sym same)
        (and_from (same_end id.end id.end) (number s id == number s id) (same_end_same id.end) (eq-eqb (number s id) (number s id) refl)
        ∙ sym (same_id_same id))
    | inr other ↦
        false_from_ne_true (same_end label.end id.end && (number s label == number s id)) (λ h.
        let p = and_parts (same_end label.end id.end) (number s label == number s id) h in
        other (one_number label id label_there there (same_end-true label.end id.end p.0) (eqb-true (number s label) (number s id) p.1)))
        ∙ sym (same_id-other label id other)
  ]

  is_mark_of-noted : (id : Id) (note : Note) → IsThere s id → IsThere s (marked_by note)
      → is_mark_of id.end (number s id) (mark_of s note) ≡ same_id (marked_by note) id
  is_mark_of-noted id (Retires label by) there label_there = is_mark-noted id label there label_there
  is_mark_of-noted id (Cuts label) there label_there = is_mark-noted id label there label_there

  pub is_marked-noted : (id : Id) (notes : List Note) → IsThere s id → AllByRecursion (λ note. IsThere s (marked_by note)) notes
      → is_marked id.end (number s id) (map (mark_of s) notes) ≡ is_noted id notes
  is_marked-noted id [] there all = refl
  is_marked-noted id (note ∷ notes) there all =
      ap₂ (λ (a b : Bool). a || b) (is_mark_of-noted id note there all.0) (is_marked-noted id notes there all.1)
