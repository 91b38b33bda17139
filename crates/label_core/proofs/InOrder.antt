-- Marks put in the order of the log. Those of one bucket keep their order, and a mark looks at its own bucket alone.
use Rattle.std.proofs.Common.{◌≡◌, ◌≢◌, ℕ, zero, suc, ◌<◌, ◌≤◌, ◌||◌, ◌==◌, Bool, true, false, List, [], ◌∷◌, ◌++◌, filter, append-nil, refl, sym, ◌∙◌, ap, ap₂, subst, inl, inr, arith, true≢false}
use Rattle.std.proofs.lemmas.Bool.{cases_Bool, cases_eq, cond-true, cond-false, and_parts, and_from, eqb-true, eq-eqb, false_from_ne_true}
use Rattle.std.proofs.lemmas.List.Elements.{filter-append}
use Rattle.bucket.specs.declared.id.Id.{Id}
use Rattle.bucket.specs.declared.limits.TheConstants.{BUCKETS}
use Rattle.label_core.proofs.EachAfter.{EachAfter, EachAfter-append, EachAfter-filter}
use Rattle.label_core.proofs.Orderly.{MarksWell}
use Rattle.label_core.proofs.SameIds.{same_end_same, same_end-true, same_id-true, Forward≢Backward}
use Rattle.label_core.specs.CoreState.{CoreState, Note, Retires, Cuts, marked_by, is_noted}
use Rattle.label_core.specs.Ids.{same_id}
use Rattle.label_core.specs.LogOf.{is_in_bucket, by_bucket, in_order}
use Rattle.proof_log.specs.Labels.{same_end}
use Rattle.strip_model.specs.Orbit.{Orbit}
use Rattle.strip_model.specs.declared.end.End.{End}
use Rattle.strip_model.specs.declared.end.End.TheVariants.{Forward, Backward}

-- ---- filters after filters

filter-twice : {X : Type 0} (p : X → Bool) (xs : List X) → filter p (filter p xs) ≡ filter p xs
filter-twice p [] = refl
filter-twice p (x ∷ xs) = elim (cases_Bool (p x)) [
  | inl kept ↦
      ap (λ ys. filter p ys) (cond-true (p x) (x ∷ filter p xs) (filter p xs) kept) ∙ cond-true (p x) (x ∷ filter p (filter p xs)) (filter p (filter p xs)) kept
      ∙ ap (λ ys. x ∷ ys) (filter-twice p xs) ∙ sym (cond-true (p x) (x ∷ filter p xs) (filter p xs) kept)
  | inr left ↦
      ap (λ ys. filter p ys) (cond-false (p x) (x ∷ filter p xs) (filter p xs) left) ∙ filter-twice p xs
      ∙ sym (cond-false (p x) (x ∷ filter p xs) (filter p xs) left)
]

filter-apart : {X : Type 0} (p q : X → Bool) → ((x : X) → q x ≡ true → p x ≡ false) → (xs : List X) → filter p (filter q xs) ≡ []
filter-apart p q apart [] = refl
filter-apart p q apart (x ∷ xs) = elim (cases_Bool (q x)) [
  | inl kept ↦
      ap (λ ys. filter p ys) (cond-true (q x) (x ∷ filter q xs) (filter q xs) kept)
      ∙ cond-false (p x) (x ∷ filter p (filter q xs)) (filter p (filter q xs)) (apart x kept) ∙ filter-apart p q apart xs
  | inr left ↦ ap (λ ys. filter p ys) (cond-false (q x) (x ∷ filter q xs) (filter q xs) left) ∙ filter-apart p q apart xs
]

-- ---- buckets of marks

in_bucket-parts : (e : End) (b : ℕ) (note : Note) → is_in_bucket e b note ≡ true → ((marked_by note).end ≡ e) × ((marked_by note).bucket ≡ b)
in_bucket-parts e b note h =
    let p = and_parts (same_end (marked_by note).end e) ((marked_by note).bucket == b) h in
    (same_end-true (marked_by note).end e p.0, eqb-true (marked_by note).bucket b p.1)

in_bucket-from : (e : End) (b : ℕ) (note : Note) → (marked_by note).end ≡ e → (marked_by note).bucket ≡ b → is_in_bucket e b note ≡ true
in_bucket-from e b note side bucket =
    and_from (same_end (marked_by note).end e) ((marked_by note).bucket == b)
    (ap (λ (f : End). same_end f e) side ∙ same_end_same e) (eq-eqb (marked_by note).bucket b bucket)

-- no mark is of two buckets
two_buckets : (e f : End) (b c : ℕ) → (e ≡ f → b ≢ c) → (note : Note) → is_in_bucket e b note ≡ true → is_in_bucket f c note ≡ false
two_buckets e f b c differ note h =
    let p = in_bucket-parts e b note h in
    false_from_ne_true (is_in_bucket f c note) (λ k. let q = in_bucket-parts f c note k in differ (sym p.0 ∙ q.0) (sym p.1 ∙ q.1))

-- among the marks of the first n buckets of a side are none of another bucket
none_of_others : (e f : End) (c : ℕ) (n : ℕ) (notes : List Note) → (e ≡ f → n ≤ c) → filter (is_in_bucket f c) (by_bucket e n notes) ≡ []
none_of_others e f c zero notes past = refl
none_of_others e f c (suc n) notes past =
    filter-append (is_in_bucket f c) (by_bucket e n notes) (filter (is_in_bucket e n) notes)
    ∙ ap₂ (λ (xs ys : List Note). xs ++ ys) (none_of_others e f c n notes (λ same. omega (arith, past same)))
    (filter-apart (is_in_bucket f c) (is_in_bucket e n) (two_buckets e f n c (λ same k. omega (arith, past same, k))) notes)

-- and those of each of these buckets are all there
those_of_own : (e : End) (b : ℕ) (n : ℕ) (notes : List Note) → b < n → filter (is_in_bucket e b) (by_bucket e n notes) ≡ filter (is_in_bucket e b) notes
those_of_own e b zero notes below = absurd (omega arith)
those_of_own e b (suc n) notes below =
    filter-append (is_in_bucket e b) (by_bucket e n notes) (filter (is_in_bucket e n) notes)
    ∙ elim (cases_eq b n) [
      | inl last ↦
          ap₂ (λ (xs ys : List Note). xs ++ ys) (none_of_others e e b n notes (λ same. omega (arith, last)))
          (subst (λ (m : ℕ). filter (is_in_bucket e b) (filter (is_in_bucket e m) notes) ≡ filter (is_in_bucket e b) notes) last
          (filter-twice (is_in_bucket e b) notes))
      | inr before ↦
          ap₂ (λ (xs ys : List Note). xs ++ ys) (those_of_own e b n notes (below_still b n below before))
          (filter-apart (is_in_bucket e b) (is_in_bucket e n) (two_buckets e e n b (λ same k. before (sym k))) notes)
          ∙ append-nil (filter (is_in_bucket e b) notes)
    ]
  where
    below_still : (b n : ℕ) → b < suc n → (b ≡ n → ⊥) → b < n
    below_still b n below other = omega (arith, other)

-- the order of the log keeps the marks of each bucket, in their order
pub in_order-bucket : (e : End) (b : ℕ) (notes : List Note) → b < BUCKETS → filter (is_in_bucket e b) (in_order notes) ≡ filter (is_in_bucket e b) notes
unfolding in_order
in_order-bucket Forward b notes below =
    filter-append (is_in_bucket Forward b) (by_bucket Forward BUCKETS notes) (by_bucket Backward BUCKETS notes)
    ∙ ap₂ (λ (xs ys : List Note). xs ++ ys) (those_of_own Forward b BUCKETS notes below)
    (none_of_others Backward Forward b BUCKETS notes (λ same. absurd (Forward≢Backward (sym same))))
    ∙ append-nil (filter (is_in_bucket Forward b) notes)
in_order-bucket Backward b notes below =
    filter-append (is_in_bucket Backward b) (by_bucket Forward BUCKETS notes) (by_bucket Backward BUCKETS notes)
    ∙ ap₂ (λ (xs ys : List Note). xs ++ ys) (none_of_others Forward Backward b BUCKETS notes (λ same. absurd (Forward≢Backward same)))
    (those_of_own Backward b BUCKETS notes below)

-- ---- a label is marked by a mark of its bucket

is_noted-bucket : (id : Id) (notes : List Note) → is_noted id notes ≡ is_noted id (filter (is_in_bucket id.end id.bucket) notes)
is_noted-bucket id [] = refl
is_noted-bucket id (note ∷ notes) = elim (cases_Bool (is_in_bucket id.end id.bucket note)) [
  | inl inside ↦
      ap (λ (b : Bool). same_id (marked_by note) id || b) (is_noted-bucket id notes)
      ∙ ap (λ (xs : List Note). is_noted id xs)
      (sym (cond-true (is_in_bucket id.end id.bucket note) (note ∷ filter (is_in_bucket id.end id.bucket) notes)
      (filter (is_in_bucket id.end id.bucket) notes) inside))
  | inr outside ↦
      let other : same_id (marked_by note) id ≡ false =
      false_from_ne_true (same_id (marked_by note) id) (λ h.
      let same : marked_by note ≡ id = same_id-true (marked_by note) id h in
      true≢false (sym (in_bucket-from id.end id.bucket note (ap (λ (x : Id). x.end) same) (ap (λ (x : Id). x.bucket) same)) ∙ outside)) in
      ap (λ (b : Bool). b || is_noted id notes) other ∙ is_noted-bucket id notes
      ∙ ap (λ (xs : List Note). is_noted id xs)
      (sym (cond-false (is_in_bucket id.end id.bucket note) (note ∷ filter (is_in_bucket id.end id.bucket) notes)
      (filter (is_in_bucket id.end id.bucket) notes) outside))
]

-- lists of marks with the same marks of its bucket mark a label alike
is_noted-alike : (id : Id) (xs ys : List Note) → filter (is_in_bucket id.end id.bucket) xs ≡ filter (is_in_bucket id.end id.bucket) ys
    → is_noted id xs ≡ is_noted id ys
is_noted-alike id xs ys same = is_noted-bucket id xs ∙ ap (λ (zs : List Note). is_noted id zs) same ∙ sym (is_noted-bucket id ys)

pub is_noted-in_order : (id : Id) (notes : List Note) → id.bucket < BUCKETS → is_noted id (in_order notes) ≡ is_noted id notes
is_noted-in_order id notes below = is_noted-alike id (in_order notes) notes (in_order-bucket id.end id.bucket notes below)

-- ---- marks keep their rules in the order of the log

is_noted-front : (e : End) (b : ℕ) (front back : List Note) (id : Id) → id.end ≡ e → id.bucket ≡ b
    → filter (is_in_bucket e b) front ≡ filter (is_in_bucket e b) back → is_noted id front ≡ false → is_noted id back ≡ false
is_noted-front e b front back id side bucket same unmarked =
    sym (is_noted-alike id front back
    (subst (λ (f : End). filter (is_in_bucket f id.bucket) front ≡ filter (is_in_bucket f id.bucket) back) (sym side)
    (subst (λ (c : ℕ). filter (is_in_bucket e c) front ≡ filter (is_in_bucket e c) back) (sym bucket) same))) ∙ unmarked

MarksWell-bucket : (I : Orbit) (s : CoreState) (e : End) (b : ℕ) (front back : List Note) (note : Note) → is_in_bucket e b note ≡ true
    → filter (is_in_bucket e b) front ≡ filter (is_in_bucket e b) back → MarksWell I s front note → MarksWell I s back note
MarksWell-bucket I s e b front back (Retires id by) inside same well =
    let p = in_bucket-parts e b (Retires id by) inside in
    record {
      there = well.there;
      by_there = well.by_there;
      one_side = well.one_side;
      one_bucket = well.one_bucket;
      differ = well.differ;
      unmarked = is_noted-front e b front back id p.0 p.1 same well.unmarked;
      by_unmarked = is_noted-front e b front back by (well.one_side ∙ p.0) (well.one_bucket ∙ p.1) same well.by_unmarked;
      dominated = well.dominated;
    }
MarksWell-bucket I s e b front back (Cuts id) inside same well =
    let p = in_bucket-parts e b (Cuts id) inside in
    record { there = well.there; unmarked = is_noted-front e b front back id p.0 p.1 same well.unmarked; bounded = well.bounded }

module _ (I : Orbit) (s : CoreState) (notes : List Note) (each : EachAfter (MarksWell I s) [] notes) where
  EachAfter-by_bucket : (e : End) (front : List Note) → ((c : ℕ) → filter (is_in_bucket e c) front ≡ []) → (n : ℕ)
      → EachAfter (MarksWell I s) front (by_bucket e n notes)
  EachAfter-by_bucket e front none zero = tt
  EachAfter-by_bucket e front none (suc n) =
      let empty : filter (is_in_bucket e n) (front ++ by_bucket e n notes) ≡ [] =
      filter-append (is_in_bucket e n) front (by_bucket e n notes)
      ∙ ap₂ (λ (xs ys : List Note). xs ++ ys) (none n) (none_of_others e e n n notes (λ same. omega arith)) in
      EachAfter-append (MarksWell I s) front (by_bucket e n notes) (filter (is_in_bucket e n) notes) (EachAfter-by_bucket e front none n)
      (EachAfter-filter (MarksWell I s) (is_in_bucket e n) (MarksWell-bucket I s e n) [] (front ++ by_bucket e n notes) notes (sym empty) each)

  pub EachAfter-in_order : EachAfter (MarksWell I s) [] (in_order notes)
  unfolding in_order
  EachAfter-in_order =
      EachAfter-append (MarksWell I s) [] (by_bucket Forward BUCKETS notes) (by_bucket Backward BUCKETS notes)
      (EachAfter-by_bucket Forward [] (λ c. refl) BUCKETS)
      (EachAfter-by_bucket Backward (by_bucket Forward BUCKETS notes)
      (λ c. none_of_others Forward Backward c BUCKETS notes (λ same. absurd (Forward≢Backward same))) BUCKETS)
