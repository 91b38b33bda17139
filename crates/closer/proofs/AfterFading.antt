-- What a search knows stays known where the labels stay, of which some may live no more, and the plan may be another.
use Rattle.std.proofs.Common.{◌≡◌, ℕ, suc, ◌==◌, if◌then◌else◌, List, [], ◌∷◌, ◌++◌, length, get_or, refl, sym, ◌∙◌, ap, subst, inl, inr, arith}
use Rattle.std.proofs.lemmas.List.Sums.{sum_by-cons}
use Rattle.std.specs.List.{Contains, sum_by}
use Rattle.label_list.specs.Labels.{Held}
use Rattle.closer.specs.Joining.{Replans}
use Rattle.closer.specs.Searching.{end_of, path_in, rank_of, Names, IsTodo, IsSearching}
use Rattle.closer.specs.declared.agenda.Agenda.{Agenda}
use Rattle.closer.specs.declared.wait.Wait.{Wait}
use Rattle.label_core.specs.CoreState.{labels_in, IsListed, IsLivePath}
use Rattle.label_core.specs.Machine.{Machine, count_of}
use Rattle.admission.proofs.CarefulSteps.{IsReached-careful}
use Rattle.admission.proofs.Fading.{there_still}
use Rattle.admission.proofs.AntichainOrder.{IsAntichain-sides}
use Rattle.admission.proofs.AntichainSets.{HasAntichains-fades}
use Rattle.admission.specs.CarefulRuns.{GoesQuietly, IsExtended, IsAntichain, end_place}
use Rattle.admission.specs.Antichains.{Fades, HasAntichains, members_of}
use Rattle.strip_model.specs.LabelPath.{LabelPath}
use Rattle.strip_model.specs.Orbit.{Orbit}
use Rattle.strip_model.specs.Side.{facing, face_of}
use Rattle.strip_model.specs.Starts.{Root, place_after}
use Rattle.strip_model.specs.declared.end.End.{End}
use Rattle.strip_model.specs.declared.end.End.TheVariants.{Forward, Backward}

-- ---- paths, where some labels may live no more

module _ (m t : Machine) (fades : Fades m t) where
  -- what lives now lived before
  pub IsLivePath-before : (e : End) (path : List ℕ) → IsLivePath t.state e path → IsLivePath m.state e path
  IsLivePath-before e path h = elim h [
    | inl root ↦ inl root
    | inr label ↦ inr (label.0, label.1, fades.live label.0 label.2, sym (fades.path label.0) ∙ label.3)
  ]

  -- what was listed is listed
  pub IsListed-after : (e : End) (path : List ℕ) → IsListed m.state e path → IsListed t.state e path
  IsListed-after e path h = (h.0, h.1, there_still m t fades h.0 h.2, fades.path h.0 ∙ h.3)

  LabelPath-before : (e : End) (path : List ℕ) → LabelPath (face_of t.instance t.cut e) path → LabelPath (face_of m.instance m.cut e) path
  LabelPath-before e path h =
      subst (λ (I : Orbit). LabelPath (face_of I m.cut e) path) fades.instance
      (subst (λ (H : ℕ). LabelPath (face_of t.instance H e) path) fades.cut h)

  -- what was extended is extended
  pub IsExtended-after : (e : End) (path : List ℕ) → IsExtended m e path → IsExtended t e path
  unfolding LabelPath-before
  IsExtended-after e path h y is_path =
      IsListed-after e (path ++ y ∷ []) (h y (LabelPath-before e (path ++ y ∷ []) is_path))

  -- ---- what waits

  path_in-after : (w : Wait) → path_in t w ≡ path_in m w
  path_in-after w = ap (λ (p : List ℕ). if w.rank == 0 then [] else p) (fades.path _)

  end_place-after : (e : End) (path : List ℕ) → end_place t e path ≡ end_place m e path
  end_place-after e path = ap (λ (I : Orbit). place_after (facing I e) Root path) fades.instance

  pub Names-after : (w : Wait) → Names m w → Names t w
  unfolding path_in-after end_place-after
  Names-after w h = record {
    there = λ some. there_still m t fades _ (h.there some);
    rank =
        ap (λ (p : List ℕ). rank_of (end_place t (end_of w) p)) (path_in-after w)
        ∙ ap rank_of (end_place-after (end_of w) (path_in m w))
        ∙ h.rank;
  }

  pub IsTodo-after : (waiting : List Wait) (e : End) (path : List ℕ) → IsTodo m waiting e path → IsTodo t waiting e path
  unfolding path_in-after
  IsTodo-after waiting e path h = (h.0, h.1, h.2, path_in-after h.0 ∙ h.3)

-- a search goes on where the queue is the same and the antichains are those of the new machine
pub IsSearching-after : (m t : Machine) (a b : Agenda) → Fades m t → GoesQuietly m t → b.queue ≡ a.queue → HasAntichains t Forward (members_of b.forward.items)
    → HasAntichains t Backward (members_of b.backward.items) → IsSearching m a → IsSearching t b
IsSearching-after m t a b fades quiet queue forward backward h = record {
  keeps = record {
    reached = IsReached-careful 0 m t h.keeps.reached (quiet 0);
    forward = forward;
    backward = backward;
    named = λ w among. Names-after m t fades w (h.keeps.named w (subst (λ (q : List Wait). Contains q w) queue among));
  };
  waits =
      λ e path live. elim (h.waits e path (IsLivePath-before m t fades e path live)) [
        | inl extended ↦ inl (IsExtended-after m t fades e path extended)
        | inr todo ↦
            inr (IsTodo-after m t fades b.queue e path (subst (λ (q : List Wait). IsTodo m q e path) (sym queue) todo))
      ];
}

-- and where the plan alone is another
pub IsSearching-replans : (m t : Machine) (a : Agenda) → Replans m t → IsSearching m a → IsSearching t a
IsSearching-replans m t a h s =
    IsSearching-after m t a a h.fades h.quiet refl
    (HasAntichains-fades m t Forward (members_of a.forward.items) h.fades (λ id side live. h.alive id live) s.keeps.forward)
    (HasAntichains-fades m t Backward (members_of a.backward.items) h.fades (λ id side live. h.alive id live) s.keeps.backward)
    s

-- no live label dominates another while the search goes on
pub IsAntichain-searching : (m : Machine) (a : Agenda) → IsSearching m a → IsAntichain m
IsAntichain-searching m a h = IsAntichain-sides m (members_of a.forward.items) (members_of a.backward.items) h.keeps.reached h.keeps.forward h.keeps.backward

-- ---- how many labels there are

-- lists of lists of the same lengths at each place have as many elements
lengths_same : (xs ys : List (List Held)) → ((b : ℕ) → length (get_or xs b []) ≡ length (get_or ys b []))
    → sum_by (λ labels. length labels) xs ≡ sum_by (λ labels. length labels) ys
lengths_same [] [] h = refl
lengths_same [] (y ∷ ys) h =
    omega (arith, h 0, lengths_same [] ys (λ b. h (suc b)), sum_by-cons (λ (labels : List Held). length labels) y ys)
lengths_same (x ∷ xs) [] h =
    omega (arith, h 0, lengths_same xs [] (λ b. h (suc b)), sum_by-cons (λ (labels : List Held). length labels) x xs)
lengths_same (x ∷ xs) (y ∷ ys) h =
    omega (
      arith,
      h 0,
      lengths_same xs ys (λ b. h (suc b)),
      sum_by-cons (λ (labels : List Held). length labels) x xs,
      sum_by-cons (λ (labels : List Held). length labels) y ys,
    )

-- the labels are as many as before
pub count-fades : (m t : Machine) → Fades m t → count_of t.state ≡ count_of m.state
unfolding labels_in
count-fades m t fades =
    omega (
      arith,
      lengths_same t.state.forward m.state.forward (λ b. fades.len Forward b),
      lengths_same t.state.backward m.state.backward (λ b. fades.len Backward b),
    )
