-- Why the next insertion takes care.
use Rattle.std.proofs.Common.{◌≡◌, ℕ, ◌<◌, List, [], ◌∷◌, ◌++◌, refl, sym, ◌∙◌, ap, subst, inl, inr, arith}
use Rattle.closer.proofs.Places.{IsEarlier-rank}
use Rattle.closer.specs.Searching.{end_of, path_in, rank_of, Names, IsTodo, IsNext, IsExtending}
use Rattle.closer.specs.declared.agenda.Agenda.{Agenda}
use Rattle.closer.specs.declared.wait.Wait.{Wait}
use Rattle.label_core.specs.CoreState.{IsLivePath}
use Rattle.label_core.specs.Machine.{Machine, count_of}
use Rattle.admission.proofs.AntichainOrder.{IsAntichain-sides}
use Rattle.admission.specs.Antichains.{members_of}
use Rattle.admission.specs.CarefulRuns.{IsEarlier, IsExtended, end_place, InsertsWithCare}
use Rattle.strip_model.specs.declared.end.End.{End}

-- what is next has the rank of its place
rank_of-names : (m : Machine) (w : Wait) (e : End) (path : List ℕ) → Names m w → end_of w ≡ e → path_in m w ≡ path → rank_of (end_place m e path) ≡ w.rank
rank_of-names m w e path names side is =
    ap (λ (f : End). rank_of (end_place m f path)) (sym side) ∙ ap (λ (p : List ℕ). rank_of (end_place m (end_of w) p)) (sym is) ∙ names.rank

-- what has an earlier last start than what is next doesn't wait
todo_late : (m : Machine) (a : Agenda) (now : Wait) (q : List ℕ) → IsNext m a now
    → IsEarlier (end_place m (end_of now) q) (end_place m (end_of now) (path_in m now)) → IsTodo m a.queue (end_of now) q → ⊥
todo_late m a now q next earlier todo =
    omega (
      arith,
      IsEarlier-rank (end_place m (end_of now) q) (end_place m (end_of now) (path_in m now)) earlier,
      rank_of-names m todo.0 (end_of now) q (next.keeps.named todo.0 todo.1) todo.2 todo.3,
      next.names.rank,
      next.late todo.0 todo.1,
    )

not_earlier : (m : Machine) (e : End) (q path : List ℕ) → q ≡ path → IsEarlier (end_place m e q) (end_place m e path) → ⊥
not_earlier m e q path same earlier =
    omega (
      arith,
      IsEarlier-rank (end_place m e q) (end_place m e path) earlier,
      ap (λ (p : List ℕ). rank_of (end_place m e p)) same,
    )

-- so it is extended
extended_before : (m : Machine) (a : Agenda) (now : Wait) → IsNext m a now → (q : List ℕ) → IsLivePath m.state (end_of now) q
    → IsEarlier (end_place m (end_of now) q) (end_place m (end_of now) (path_in m now)) → IsExtended m (end_of now) q
extended_before m a now next q lives earlier = elim (next.waits (end_of now) q lives) [
  | inl waits ↦ elim waits [
    | inl extended ↦ extended
    | inr todo ↦ absurd (todo_late m a now q next earlier todo)
  ]
  | inr at ↦ absurd (not_earlier m (end_of now) q (path_in m now) at.1 earlier)
]

-- what extends a root or a label that is next can be inserted with care
pub InsertsWithCare-next : (budget : ℕ) (m : Machine) (a : Agenda) (now : Wait) (y : ℕ) → IsExtending m a now y → count_of m.state < budget
    → InsertsWithCare budget m (end_of now) (path_in m now ++ y ∷ [])
InsertsWithCare-next budget m a now y h room = record {
  room = room;
  antichain =
      IsAntichain-sides m (members_of a.forward.items) (members_of a.backward.items) h.next.keeps.reached h.next.keeps.forward h.next.keeps.backward;
  parent = path_in m now;
  last = y;
  is = refl;
  parent_lives = h.lives;
  in_order = extended_before m a now h.next;
}

-- the same for a path that is so
pub InsertsWithCare-extending : (budget : ℕ) (m : Machine) (a : Agenda) (now : Wait) (y : ℕ) (e : End) (path : List ℕ) → IsExtending m a now y
    → e ≡ end_of now → path ≡ path_in m now ++ y ∷ [] → count_of m.state < budget → InsertsWithCare budget m e path
InsertsWithCare-extending budget m a now y e path h side is room =
    subst (λ (f : End). InsertsWithCare budget m f path) (sym side)
    (subst (λ (p : List ℕ). InsertsWithCare budget m (end_of now) p) (sym is) (InsertsWithCare-next budget m a now y h room))
