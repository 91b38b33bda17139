-- What the search knows once a root or label has one more extension in the list.
use Rattle.std.proofs.Common.{◌≡◌, ◌≢◌, ℕ, ◌+◌, ◌<◌, ◌≤◌, ◌⊎◌, List, [], ◌∷◌, ◌++◌, Contains, sym, ◌∙◌, ap, subst, inl, inr, arith}
use Rattle.std.proofs.lemmas.Bool.{cases_eq}
use Rattle.label_list.specs.Labels.{last_of}
use Rattle.bucket.specs.declared.id.Id.{Id}
use Rattle.closer.proofs.Admissions.{path_in-still, Names-still, path_in-new, Names-new, listed_still, listed_new, LabelPath-before, extended_still, lived_or_new, lives_still}
use Rattle.closer.proofs.Places.{rank-arrive, start-push, parent-ends_else}
use Rattle.closer.specs.NewWaits.{IsWaitOf, WaitsIfLive}
use Rattle.closer.specs.Searching.{end_of, path_in, rank_of, Names, IsTodo, IsExtending}
use Rattle.closer.specs.declared.agenda.Agenda.{Agenda}
use Rattle.closer.specs.declared.wait.Wait.{Wait}
use Rattle.label.specs.Labels.{IsLabelOf}
use Rattle.label.specs.declared.label.Label.{Label}
use Rattle.label_core.specs.CoreState.{IsLiveAt, IsListed, IsLivePath}
use Rattle.label_core.specs.Machine.{Machine, IsReached, new_id}
use Rattle.admission.specs.CarefulRuns.{IsExtended, end_place}
use Rattle.admission.specs.Antichains.{HasAntichains, Admits, members_of}
use Rattle.strip_model.specs.LabelPath.{LabelPath}
use Rattle.strip_model.specs.Side.{facing, face_of}
use Rattle.strip_model.specs.Starts.{Root, After, arrive, place_after}
use Rattle.strip_model.specs.declared.end.End.{End}
use Rattle.strip_model.specs.declared.end.End.TheVariants.{Forward, Backward}

-- one label is admitted, and waits if it lives
module _ (m t : Machine) (a b : Agenda) (now : Wait) (y : ℕ) (l : Label) (rank : ℕ) (admits : Admits m t l.end l.path.items)
    (waits : WaitsIfLive t.state (new_id m.state l.end l.path.items) rank a.queue b.queue) (rank_is : rank ≡ l.start + 1)
    (is : l.path.items ≡ path_in m now ++ y ∷ []) (label : IsLabelOf (face_of m.instance m.cut (end_of now)) l) (h : IsExtending m a now y) where
  now_still : path_in t now ≡ path_in m now
  now_still = path_in-still m t l.end l.path.items admits now h.next.names

  -- what waits then is a root or a label
  named_then : (w : Wait) → Contains b.queue w → Names t w
  named_then w in_new = elim (waits.only w in_new) [
    | inl was ↦ Names-still m t l.end l.path.items admits w (h.next.keeps.named w was)
    | inr new ↦
        Names-new m t l.end l.path.items admits w l.start l.last new.name (new.rank ∙ rank_is)
        (subst (λ (f : End). place_after (facing m.instance f) Root l.path.items ≡ After l.start l.last) (sym label.side) label.at)
  ]

  -- and begins no earlier
  late_then : (w : Wait) → Contains b.queue w → now.rank ≤ w.rank
  late_then w in_new = elim (waits.only w in_new) [
    | inl was ↦ h.next.late w was
    | inr new ↦
        let later : rank_of (end_place m (end_of now) (path_in m now)) ≤ arrive (facing m.instance (end_of now)) (end_place m (end_of now) (path_in m now)) y + 1 =
        rank-arrive (facing m.instance (end_of now)) (end_place m (end_of now) (path_in m now)) y in
        let start : l.start ≡ arrive (facing m.instance (end_of now)) (end_place m (end_of now) (path_in m now)) y =
        start-push (face_of m.instance m.cut (end_of now)) l (path_in m now) y label is in
        omega (arith, new.rank, rank_is, start, later, h.next.names.rank)
  ]

  todo_still : (f : End) (q : List ℕ) → IsTodo m a.queue f q → IsTodo t b.queue f q
  todo_still f q todo = (
    todo.0,
    waits.kept todo.0 todo.1,
    todo.2,
    path_in-still m t l.end l.path.items admits todo.0 (h.next.keeps.named todo.0 todo.1) ∙ todo.3,
  )

  todo_new : IsLiveAt t.state (new_id m.state l.end l.path.items) → IsTodo t b.queue l.end l.path.items
  todo_new live =
      let w : (w : Wait) × Contains b.queue w × IsWaitOf (new_id m.state l.end l.path.items) rank w = waits.waits live in (
        w.0,
        w.1,
        ap (λ (x : Id). x.end) w.2.name,
        path_in-new m t l.end l.path.items admits w.0 w.2.name (λ root. omega (arith, root, w.2.rank, rank_is)),
      )

  -- each other root and live label is extended by all, or waits
  waits_then : (f : End) (q : List ℕ) → IsLivePath t.state f q
      → (IsExtended t f q ⊎ IsTodo t b.queue f q) ⊎ ((f ≡ end_of now) × (q ≡ path_in t now))
  waits_then f q lives = elim (lived_or_new m t l.end l.path.items admits f q lives) [
    | inl lived ↦ elim (h.next.waits f q lived) [
      | inl before ↦ elim before [
        | inl extended ↦ inl (inl (extended_still m t l.end l.path.items admits f q extended))
        | inr todo ↦ inl (inr (todo_still f q todo))
      ]
      | inr at ↦ inr (at.0, at.1 ∙ sym now_still)
    ]
    | inr new ↦
        inl
        (inr
        (subst (λ (e : End). IsTodo t b.queue e q) (sym new.0)
        (subst (λ (p : List ℕ). IsTodo t b.queue l.end p) (sym new.1) (todo_new new.2))))
  ]

  -- what is extended lives on: it ends with another directed strip
  lives_then : IsLivePath t.state (end_of now) (path_in t now)
  lives_then =
      let ends_else : path_in m now ≢ [] → last_of (path_in m now) ≡ last_of l.path.items → ⊥ =
      λ some same.
      parent-ends_else (face_of m.instance m.cut (end_of now)) (path_in m now) y
      (subst (λ (p : List ℕ). LabelPath (face_of m.instance m.cut (end_of now)) p) is label.path) some
      (same ∙ ap (λ (p : List ℕ). last_of p) is) in
      subst (λ (p : List ℕ). IsLivePath t.state (end_of now) p) (sym now_still)
      (subst (λ (f : End). IsLivePath t.state f (path_in m now)) label.side
      (lives_still m t l.end l.path.items admits (path_in m now) ends_else
      (subst (λ (f : End). IsLivePath m.state f (path_in m now)) (sym label.side) h.lives)))

  -- one extension more is in the list
  done_then : (z : ℕ) → z < y + 1 → LabelPath (face_of t.instance t.cut (end_of now)) (path_in m now ++ z ∷ [])
      → IsListed t.state (end_of now) (path_in m now ++ z ∷ [])
  done_then z below longer = elim (cases_eq z y) [
    | inl last ↦
        subst (λ (x : ℕ). IsListed t.state (end_of now) (path_in m now ++ x ∷ [])) (sym last)
        (subst (λ (p : List ℕ). IsListed t.state (end_of now) p) is
        (subst (λ (f : End). IsListed t.state f l.path.items) label.side (listed_new m t l.end l.path.items admits)))
    | inr other ↦
        listed_still m t l.end l.path.items admits (end_of now) (path_in m now ++ z ∷ [])
        (h.done z (omega (arith, below, other))
        (LabelPath-before m t l.end l.path.items admits (end_of now) (path_in m now ++ z ∷ []) longer))
  ]

  pub IsExtending-grows : IsReached t → HasAntichains t Forward (members_of b.forward.items) → HasAntichains t Backward (members_of b.backward.items) → IsExtending t b now (y + 1)
  IsExtending-grows reached forward backward = record {
    next = record {
      keeps = record {
        reached = reached;
        forward = forward;
        backward = backward;
        named = named_then;
      };
      names = Names-still m t l.end l.path.items admits now h.next.names;
      late = late_then;
      waits = waits_then;
    };
    lives = lives_then;
    done =
        λ z below longer.
        subst (λ (p : List ℕ). IsListed t.state (end_of now) (p ++ z ∷ [])) (sym now_still)
        (done_then z below (subst (λ (p : List ℕ). LabelPath (face_of t.instance t.cut (end_of now)) (p ++ z ∷ [])) now_still longer));
  }
