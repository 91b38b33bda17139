-- What stays, and what comes, when one label is admitted.
use Rattle.std.proofs.Common.{◌≡◌, ◌≢◌, ℕ, zero, suc, ◌+◌, ◌<◌, ◌≤◌, ◌⊎◌, List, [], ◌∷◌, ◌++◌, Option, Some, None, length, get_or, sum_by, refl, sym, ◌∙◌, ap, subst, inl, inr, arith}
use Rattle.std.proofs.lemmas.Bool.{cases_eq}
use Rattle.std.proofs.lemmas.List.Sums.{sum_by-cons}
use Rattle.bucket.specs.Histories.{bucket_of}
use Rattle.label_list.specs.Labels.{Held, last_of}
use Rattle.bucket.specs.declared.id.Id.{Id}
use Rattle.closer.proofs.SearchSteps.{path_in-root, path_in-label}
use Rattle.closer.specs.Searching.{end_of, path_in, rank_of, Names, IsParent}
use Rattle.closer.specs.Waiting.{id_of}
use Rattle.closer.specs.declared.wait.Wait.{Wait}
use Rattle.label.specs.Labels.{IsLabelOf}
use Rattle.label.specs.declared.label.Label.{Label}
use Rattle.label_core.proofs.Orderly.{IsOrderly}
use Rattle.label_core.proofs.SameIds.{cases_bucket}
use Rattle.label_core.specs.CoreState.{labels_in, path_of, IsThere, IsLiveAt, IsListed, IsLivePath}
use Rattle.label_core.specs.Machine.{Machine, count_of, new_id}
use Rattle.admission.specs.CarefulRuns.{IsExtended, end_place}
use Rattle.admission.specs.Antichains.{Admits}
use Rattle.strip_model.specs.LabelPath.{LabelPath}
use Rattle.strip_model.specs.Orbit.{Orbit}
use Rattle.strip_model.specs.Side.{facing, face_of}
use Rattle.strip_model.specs.Starts.{Root, After, place_after}
use Rattle.strip_model.specs.declared.end.End.{End}
use Rattle.strip_model.specs.declared.end.End.TheVariants.{Forward, Backward}

-- ---- one label more

module _ (m t : Machine) (e : End) (path : List ℕ) (admits : Admits m t e path) where
  -- a label that was there is there
  pub there_admitted : (id : Id) → IsThere m.state id → IsThere t.state id
  there_admitted id there = elim (cases_bucket e id.end (bucket_of path) id.bucket) [
    | inl same ↦
        let here : length (labels_in m.state e (bucket_of path)) ≤ length (labels_in t.state e (bucket_of path)) =
        omega (arith, admits.len_here) in
        let on_side : length (labels_in m.state id.end (bucket_of path)) ≤ length (labels_in t.state id.end (bucket_of path)) =
        subst (λ (f : End). length (labels_in m.state f (bucket_of path)) ≤ length (labels_in t.state f (bucket_of path))) same.0 here in
        let le : length (labels_in m.state id.end id.bucket) ≤ length (labels_in t.state id.end id.bucket) =
        subst (λ (b : ℕ). length (labels_in m.state id.end b) ≤ length (labels_in t.state id.end b)) same.1 on_side in
        omega (arith, there, le)
    | inr other ↦ omega (arith, there, admits.len id.end id.bucket (λ side. other (sym side)))
  ]

  -- what was in the list is in it
  pub listed_still : (f : End) (q : List ℕ) → IsListed m.state f q → IsListed t.state f q
  unfolding there_admitted
  listed_still f q listed =
      (listed.0, listed.1, there_admitted listed.0 listed.2, admits.old_path listed.0 listed.2 ∙ listed.3)

  -- and so is the new path
  pub listed_new : IsListed t.state e path
  listed_new = (new_id m.state e path, refl, omega (arith, admits.len_here), admits.new_path)

  pub LabelPath-before : (f : End) (q : List ℕ) → LabelPath (face_of t.instance t.cut f) q → LabelPath (face_of m.instance m.cut f) q
  LabelPath-before f q h =
      subst (λ (H : ℕ). LabelPath (face_of m.instance H f) q) admits.cut
      (subst (λ (I : Orbit). LabelPath (face_of I t.cut f) q) admits.instance h)

  pub extended_still : (f : End) (q : List ℕ) → IsExtended m f q → IsExtended t f q
  extended_still f q extended y longer =
      listed_still f (q ++ y ∷ []) (extended y (LabelPath-before f (q ++ y ∷ []) longer))

  -- what lives lived, or is the new label
  pub lived_or_new : (f : End) (q : List ℕ) → IsLivePath t.state f q
      → IsLivePath m.state f q ⊎ ((f ≡ e) × (q ≡ path) × IsLiveAt t.state (new_id m.state e path))
  lived_or_new f q lives = elim lives [
    | inl root ↦ inl (inl root)
    | inr label ↦ elim (admits.live label.0 label.2) [
      | inl was ↦
          inl (inr (label.0, label.1, was, sym (admits.old_path label.0 was.there) ∙ label.3))
      | inr at ↦
          inr (
            sym label.1 ∙ ap (λ (id : Id). id.end) at,
            sym label.3 ∙ ap (λ (id : Id). path_of t.state id) at ∙ admits.new_path,
            subst (λ (id : Id). IsLiveAt t.state id) at label.2,
          )
    ]
  ]

  -- what doesn't end as the new path does lives on
  pub lives_still : (q : List ℕ) → (q ≢ [] → last_of q ≡ last_of path → ⊥) → IsLivePath m.state e q → IsLivePath t.state e q
  lives_still q ends_else lives = elim lives [
    | inl root ↦ inl root
    | inr label ↦ elim (empty_or q) [
      | inl root ↦ inl root
      | inr some ↦
          inr (
            label.0,
            label.1,
            admits.others label.0 label.2 (λ ends. ends_else some (ap (λ (p : List ℕ). last_of p) (sym label.3) ∙ ends.last)),
            admits.old_path label.0 label.2.there ∙ label.3,
          )
    ]
  ]
    where
      empty_or : (q : List ℕ) → (q ≡ []) ⊎ (q ≢ [])
      empty_or [] = inl refl
      empty_or (x ∷ xs) = inr (λ h. absurd cc)

  -- what waits is of the same path
  pub path_in-still : (w : Wait) → Names m w → path_in t w ≡ path_in m w
  path_in-still w names = elim (cases_eq w.rank 0) [
    | inl root ↦ path_in-root t w root ∙ sym (path_in-root m w root)
    | inr label ↦
        path_in-label t w label ∙ admits.old_path (id_of w) (names.there label) ∙ sym (path_in-label m w label)
  ]

  pub Names-still : (w : Wait) → Names m w → Names t w
  Names-still w names = record {
    there = λ label. there_admitted (id_of w) (names.there label);
    rank =
        ap (λ (q : List ℕ). rank_of (end_place t (end_of w) q)) (path_in-still w names)
        ∙ ap (λ (I : Orbit). rank_of (place_after (facing I (end_of w)) Root (path_in m w))) admits.instance
        ∙ names.rank;
  }

  -- and what is at hand of it is so too
  pub IsParent-still : (w : Wait) (parent : Option Label) → Names m w → IsParent m w parent → IsParent t w parent
  unfolding path_in-still
  IsParent-still w None names h = h
  IsParent-still w (Some l) names h = (
    h.0,
    (
      h.1.0 ∙ sym (path_in-still w names),
      subst (λ (H : ℕ). IsLabelOf (face_of t.instance H (end_of w)) l) (sym admits.cut)
          (subst (λ (I : Orbit). IsLabelOf (face_of I m.cut (end_of w)) l) (sym admits.instance) h.1.1),
    ),
  )

  -- the new label can wait by its name and its last start
  pub path_in-new : (w : Wait) → id_of w ≡ new_id m.state e path → w.rank ≢ 0 → path_in t w ≡ path
  path_in-new w id label = path_in-label t w label ∙ ap (λ (x : Id). path_of t.state x) id ∙ admits.new_path

  pub Names-new : (w : Wait) (start last : ℕ) → id_of w ≡ new_id m.state e path → w.rank ≡ start + 1
      → place_after (facing m.instance e) Root path ≡ After start last → Names t w
  Names-new w start last id rank at = record {
    there = λ label. subst (λ (x : Id). IsThere t.state x) (sym id) (omega (arith, admits.len_here));
    rank =
        ap (λ (q : List ℕ). rank_of (end_place t (end_of w) q)) (path_in-new w id (λ root. omega (arith, root, rank)))
        ∙ ap (λ (I : Orbit). rank_of (place_after (facing I (end_of w)) Root path)) admits.instance
        ∙ ap (λ (x : Id). rank_of (place_after (facing m.instance x.end) Root path)) id
        ∙ ap rank_of at ∙ sym rank;
  }

-- ---- how many labels there are

abbrev lengths : List (List Held) → ℕ
lengths buckets = sum_by (λ labels. length labels) buckets

lengths-cons : (labels : List Held) (buckets : List (List Held)) → lengths (labels ∷ buckets) ≡ length labels + lengths buckets
lengths-cons labels buckets = sum_by-cons (λ (labels : List Held). length labels) labels buckets

-- buckets of the same lengths
lengths-same : (olds news : List (List Held)) → length news ≡ length olds
    → ((b : ℕ) → b < length olds → length (get_or news b []) ≡ length (get_or olds b [])) → lengths news ≡ lengths olds
lengths-same [] [] size same = refl
lengths-same (x ∷ xs) [] size same = absurd (omega (arith, size))
lengths-same [] (y ∷ ys) size same = absurd (omega (arith, size))
lengths-same (x ∷ xs) (y ∷ ys) size same =
    let rest : lengths ys ≡ lengths xs = lengths-same xs ys (omega (arith, size)) (λ b l. same (suc b) (omega (arith, l))) in
    omega (arith, rest, lengths-cons x xs, lengths-cons y ys, same 0 (omega arith))

-- of one bucket's length more
lengths-more : (olds news : List (List Held)) (c : ℕ) → length news ≡ length olds → c < length olds
    → length (get_or news c []) ≡ length (get_or olds c []) + 1
    → ((b : ℕ) → b < length olds → b ≢ c → length (get_or news b []) ≡ length (get_or olds b [])) → lengths news ≡ lengths olds + 1
lengths-more [] news c size there more same = absurd (omega (arith, there))
lengths-more (x ∷ xs) [] c size there more same = absurd (omega (arith, size))
lengths-more (x ∷ xs) (y ∷ ys) zero size there more same =
    let rest : lengths ys ≡ lengths xs =
    lengths-same xs ys (omega (arith, size)) (λ b l. same (suc b) (omega (arith, l)) (λ h. omega (arith, h))) in
    omega (arith, rest, lengths-cons x xs, lengths-cons y ys, more)
lengths-more (x ∷ xs) (y ∷ ys) (suc c) size there more same =
    let rest : lengths ys ≡ lengths xs + 1 =
    lengths-more xs ys c (omega (arith, size)) (omega (arith, there)) more
    (λ b l other. same (suc b) (omega (arith, l)) (λ h. other (omega (arith, h)))) in
    omega (arith, rest, lengths-cons x xs, lengths-cons y ys, same 0 (omega arith) (λ h. omega (arith, h)))

-- an admission makes one label more
pub count-admitted : (m t : Machine) (e : End) (path : List ℕ) → IsOrderly m.instance m.cut m.state → IsOrderly t.instance t.cut t.state
    → Admits m t e path → count_of t.state ≡ count_of m.state + 1
unfolding labels_in
count-admitted m t Forward path o p admits =
    omega (
      arith,
      lengths-more m.state.forward t.state.forward (bucket_of path) (p.size Forward ∙ sym (o.size Forward)) (omega (arith, o.size Forward))
          admits.len_here (λ b l other. admits.len Forward b (λ side. other)),
      lengths-same m.state.backward t.state.backward (p.size Backward ∙ sym (o.size Backward))
          (λ b l. admits.len Backward b (λ side. absurd cc)),
    )
count-admitted m t Backward path o p admits =
    omega (
      arith,
      lengths-more m.state.backward t.state.backward (bucket_of path) (p.size Backward ∙ sym (o.size Backward)) (omega (arith, o.size Backward))
          admits.len_here (λ b l other. admits.len Backward b (λ side. other)),
      lengths-same m.state.forward t.state.forward (p.size Forward ∙ sym (o.size Forward))
          (λ b l. admits.len Forward b (λ side. absurd cc)),
    )
