-- What stands where after one bucket of a state has changed.
use Rattle.std.proofs.Common.{◌≡◌, ◌≢◌, ℕ, ◌+◌, ◌<◌, ◌≤◌, ◌⊎◌, List, [], ◌∷◌, ◌++◌, length, get_or, set, length-set, length-append, get_or-set_same, get_or-set_other, refl, sym, ◌∙◌, ap, subst, inl, inr, arith}
use Rattle.std.proofs.lemmas.Bool.{cases_lt}
use Rattle.std.proofs.lemmas.List.{get_or_past, get_or_append_left}
use Rattle.std.proofs.Math.Seq.{get_or-append_seam}
use Rattle.label_core.proofs.SameIds.{cases_bucket, cases_id, Id_is}
use Rattle.label_core.specs.CoreState.{CoreState, buckets_of, labels_in, held_at, path_of, IsThere, with_labels, with_state}
use Rattle.label_list.specs.Labels.{Held, no_held}
use Rattle.label_list.specs.declared.state.State.{State}
use Rattle.bucket.specs.declared.id.Id.{Id}
use Rattle.strip_model.specs.declared.end.End.{End}
use Rattle.strip_model.specs.declared.end.End.TheVariants.{Forward, Backward}

-- ---- states of the same buckets

pub labels_in-same : (s t : CoreState) → ((e : End) → buckets_of t e ≡ buckets_of s e) → (e : End) (b : ℕ) → labels_in t e b ≡ labels_in s e b
unfolding labels_in
labels_in-same s t same e b = ap (λ (buckets : List (List Held)). get_or buckets b []) (same e)

pub held_at-same : (s t : CoreState) → ((e : End) → buckets_of t e ≡ buckets_of s e) → (id : Id) → held_at t id ≡ held_at s id
unfolding held_at
held_at-same s t same id = ap (λ (labels : List Held). get_or labels id.index no_held) (labels_in-same s t same id.end id.bucket)

-- ---- other labels in one bucket

pub labels_here : (s : CoreState) (e : End) (b : ℕ) (labels : List Held) → b < length (buckets_of s e) → labels_in (with_labels s e b labels) e b ≡ labels
unfolding labels_in
labels_here s Forward b labels l = get_or-set_same s.forward b labels [] l
labels_here s Backward b labels l = get_or-set_same s.backward b labels [] l

pub labels_there : (s : CoreState) (e : End) (b : ℕ) (labels : List Held) (f : End) (c : ℕ) → (e ≡ f → c ≢ b)
    → labels_in (with_labels s e b labels) f c ≡ labels_in s f c
unfolding labels_in
labels_there s Forward b labels Forward c other = get_or-set_other s.forward b c labels [] (other refl)
labels_there s Backward b labels Backward c other = get_or-set_other s.backward b c labels [] (other refl)
labels_there s Forward b labels Backward c other = refl
labels_there s Backward b labels Forward c other = refl

pub size-with_labels : (s : CoreState) (e : End) (b : ℕ) (labels : List Held) (f : End) → length (buckets_of (with_labels s e b labels) f) ≡ length (buckets_of s f)
size-with_labels s Forward b labels Forward = length-set s.forward b labels
size-with_labels s Backward b labels Backward = length-set s.backward b labels
size-with_labels s Forward b labels Backward = refl
size-with_labels s Backward b labels Forward = refl

-- a bucket with a label is there
pub bucket_there : (s : CoreState) (id : Id) → IsThere s id → id.bucket < length (buckets_of s id.end)
unfolding labels_in
bucket_there s id there = elim (cases_lt id.bucket (length (buckets_of s id.end))) [
  | inl below ↦ below
  | inr past ↦ absurd (omega (arith, there, ap (λ (labels : List Held). length labels) (get_or_past (buckets_of s id.end) id.bucket [] past)))
]

-- ---- one label in another state

module _ (s : CoreState) (id : Id) (state : State) (there : IsThere s id) where
  changed_labels : List Held
  changed_labels = set (labels_in s id.end id.bucket) id.index (record { path = path_of s id; state = state })

  changed_bucket : labels_in (with_state s id state) id.end id.bucket ≡ changed_labels
  unfolding changed_labels
  changed_bucket =
      labels_here s id.end id.bucket (set (labels_in s id.end id.bucket) id.index (record { path = path_of s id; state = state }))
      (bucket_there s id there)

  pub length-with_state : (e : End) (b : ℕ) → length (labels_in (with_state s id state) e b) ≡ length (labels_in s e b)
  unfolding changed_labels
  length-with_state e b = elim (cases_bucket id.end e id.bucket b) [
    | inl same ↦
        let here : length (labels_in (with_state s id state) id.end id.bucket) ≡ length (labels_in s id.end id.bucket) =
        ap (λ (labels : List Held). length labels) changed_bucket
        ∙ length-set (labels_in s id.end id.bucket) id.index (record { path = path_of s id; state = state }) in
        let on_side : length (labels_in (with_state s id state) e id.bucket) ≡ length (labels_in s e id.bucket) =
        subst (λ (f : End). length (labels_in (with_state s id state) f id.bucket) ≡ length (labels_in s f id.bucket)) same.0 here in
        subst (λ (c : ℕ). length (labels_in (with_state s id state) e c) ≡ length (labels_in s e c)) same.1 on_side
    | inr other ↦
        ap (λ (labels : List Held). length labels)
        (labels_there s id.end id.bucket (set (labels_in s id.end id.bucket) id.index (record { path = path_of s id; state = state })) e b other)
  ]

  pub held_here : held_at (with_state s id state) id ≡ record { path = path_of s id; state = state }
  unfolding held_at changed_labels
  held_here =
      ap (λ (labels : List Held). get_or labels id.index no_held) changed_bucket
      ∙ get_or-set_same (labels_in s id.end id.bucket) id.index (record { path = path_of s id; state = state }) no_held there

  pub held_there : (x : Id) → x ≢ id → held_at (with_state s id state) x ≡ held_at s x
  unfolding held_at changed_labels
  held_there x differs = elim (cases_bucket id.end x.end id.bucket x.bucket) [
    | inl same ↦
        let place : x.index ≢ id.index = λ h. differs (Id_is x id (sym same.0) (sym same.1) h) in
        let here : get_or (labels_in (with_state s id state) id.end id.bucket) x.index no_held ≡ get_or (labels_in s id.end id.bucket) x.index no_held =
        ap (λ (labels : List Held). get_or labels x.index no_held) changed_bucket
        ∙ get_or-set_other (labels_in s id.end id.bucket) id.index x.index (record { path = path_of s id; state = state }) no_held place in
        let on_side : get_or (labels_in (with_state s id state) x.end id.bucket) x.index no_held ≡ get_or (labels_in s x.end id.bucket) x.index no_held =
        subst (λ (f : End). get_or (labels_in (with_state s id state) f id.bucket) x.index no_held ≡ get_or (labels_in s f id.bucket) x.index no_held)
        same.0 here in
        subst (λ (c : ℕ). get_or (labels_in (with_state s id state) x.end c) x.index no_held ≡ get_or (labels_in s x.end c) x.index no_held)
        same.1 on_side
    | inr other ↦
        ap (λ (labels : List Held). get_or labels x.index no_held)
        (labels_there s id.end id.bucket (set (labels_in s id.end id.bucket) id.index (record { path = path_of s id; state = state })) x.end x.bucket
        other)
  ]

  pub path-with_state : (x : Id) → path_of (with_state s id state) x ≡ path_of s x
  path-with_state x = elim (cases_id x id) [
    | inl same ↦ subst (λ (y : Id). path_of (with_state s id state) y ≡ path_of s y) (sym same) (ap (λ (h : Held). h.path) held_here)
    | inr other ↦ ap (λ (h : Held). h.path) (held_there x other)
  ]

-- ---- one label more

-- the state with one label more at the end of a bucket
abbrev pub with_label : CoreState → End → ℕ → Held → CoreState
with_label s e b held = with_labels s e b (labels_in s e b ++ held ∷ [])

-- the name of the next label of a bucket
abbrev pub next_id : CoreState → End → ℕ → Id
next_id s e b = record { end = e; bucket = b; index = length (labels_in s e b) }

module _ (s : CoreState) (e : End) (b : ℕ) (held : Held) (there : b < length (buckets_of s e)) where
  longer_bucket : labels_in (with_label s e b held) e b ≡ labels_in s e b ++ held ∷ []
  longer_bucket = labels_here s e b (labels_in s e b ++ held ∷ []) there

  -- the length of each bucket
  pub length-here : length (labels_in (with_label s e b held) e b) ≡ length (labels_in s e b) + 1
  length-here = ap (λ (labels : List Held). length labels) longer_bucket ∙ length-append (labels_in s e b) (held ∷ [])

  pub held_new : held_at (with_label s e b held) (next_id s e b) ≡ held
  unfolding held_at
  held_new =
      ap (λ (labels : List Held). get_or labels (length (labels_in s e b)) no_held) longer_bucket
      ∙ get_or-append_seam (labels_in s e b) held [] no_held

  pub there_new : IsThere (with_label s e b held) (next_id s e b)
  there_new = omega (arith, length-here)

  pub held_old : (x : Id) → IsThere s x → held_at (with_label s e b held) x ≡ held_at s x
  unfolding held_at
  held_old x in_old = elim (cases_bucket e x.end b x.bucket) [
    | inl same ↦
        let in_bucket : x.index < length (labels_in s e b) =
        subst (λ (f : End). x.index < length (labels_in s f b)) (sym same.0)
        (subst (λ (c : ℕ). x.index < length (labels_in s x.end c)) (sym same.1) in_old) in
        let here : get_or (labels_in (with_label s e b held) e b) x.index no_held ≡ get_or (labels_in s e b) x.index no_held =
        ap (λ (labels : List Held). get_or labels x.index no_held) longer_bucket
        ∙ get_or_append_left (labels_in s e b) (held ∷ []) no_held x.index in_bucket in
        let on_side : get_or (labels_in (with_label s e b held) x.end b) x.index no_held ≡ get_or (labels_in s x.end b) x.index no_held =
        subst (λ (f : End). get_or (labels_in (with_label s e b held) f b) x.index no_held ≡ get_or (labels_in s f b) x.index no_held) same.0 here in
        subst (λ (c : ℕ). get_or (labels_in (with_label s e b held) x.end c) x.index no_held ≡ get_or (labels_in s x.end c) x.index no_held) same.1
        on_side
    | inr other ↦
        ap (λ (labels : List Held). get_or labels x.index no_held) (labels_there s e b (labels_in s e b ++ held ∷ []) x.end x.bucket other)
  ]

  pub there_old : (x : Id) → IsThere s x → IsThere (with_label s e b held) x
  there_old x in_old = elim (cases_bucket e x.end b x.bucket) [
    | inl same ↦
        let here : length (labels_in s e b) ≤ length (labels_in (with_label s e b held) e b) = omega (arith, length-here) in
        let on_side : length (labels_in s x.end b) ≤ length (labels_in (with_label s e b held) x.end b) =
        subst (λ (f : End). length (labels_in s f b) ≤ length (labels_in (with_label s e b held) f b)) same.0 here in
        let le : length (labels_in s x.end x.bucket) ≤ length (labels_in (with_label s e b held) x.end x.bucket) =
        subst (λ (c : ℕ). length (labels_in s x.end c) ≤ length (labels_in (with_label s e b held) x.end c)) same.1 on_side in
        omega (arith, le, in_old)
    | inr other ↦
        omega
        (arith, in_old, ap (λ (labels : List Held). length labels) (labels_there s e b (labels_in s e b ++ held ∷ []) x.end x.bucket other))
  ]

  -- what is there then was there before, or is the new label
  pub there_cases : (x : Id) → IsThere (with_label s e b held) x → IsThere s x ⊎ (x ≡ next_id s e b)
  there_cases x now = elim (cases_bucket e x.end b x.bucket) [
    | inl same ↦
        let in_bucket : x.index < length (labels_in (with_label s e b held) e b) =
        subst (λ (f : End). x.index < length (labels_in (with_label s e b held) f b)) (sym same.0)
        (subst (λ (c : ℕ). x.index < length (labels_in (with_label s e b held) x.end c)) (sym same.1) now) in
        elim (cases_lt x.index (length (labels_in s e b))) [
          | inl below ↦
              inl (subst (λ (c : ℕ). x.index < length (labels_in s x.end c)) same.1 (subst (λ (f : End). x.index < length (labels_in s f b)) same.0 below))
          | inr past ↦ inr (Id_is x (next_id s e b) (sym same.0) (sym same.1) (omega (arith, past, in_bucket, length-here)))
        ]
    | inr other ↦
        inl (omega
        (arith, now, ap (λ (labels : List Held). length labels) (labels_there s e b (labels_in s e b ++ held ∷ []) x.end x.bucket other)))
  ]
