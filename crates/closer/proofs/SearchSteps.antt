-- The search loop: what comes out of the queue, and what becomes of it.
use Rattle.std.proofs.Common.{◌≡◌, ◌≢◌, ℕ, ◌*◌, ◌<◌, ◌≤◌, ◌==◌, List, [], ◌∷◌, ◌++◌, length, refl, sym, ◌∙◌, ap, subst, inl, inr, arith}
use Rattle.std.specs.Prelude.{Contains}
use Rattle.std.proofs.lemmas.Bool.{cond-true, cond-false, eq-eqb, ne_eqb}
use Rattle.label_list.specs.Labels.{last_of}
use Rattle.bucket.specs.declared.id.Id.{Id}
use Rattle.closer.specs.Looking.{IsExtendedBy}
use Rattle.closer.specs.Searching.{end_of, path_in, Names, Keeps, IsSearching, IsNext, IsExtending}
use Rattle.closer.specs.Waiting.{id_of, Joins, Leaves}
use Rattle.closer.specs.declared.agenda.Agenda.{Agenda}
use Rattle.closer.specs.declared.wait.Wait.{Wait}
use Rattle.label_core.proofs.Orderly.{IsOrderly}
use Rattle.label_core.specs.CoreState.{path_of, IsThere, IsLiveAt, IsLivePath}
use Rattle.label_core.specs.Machine.{Machine}
use Rattle.admission.proofs.CarefulSteps.{IsOrderly-reached, instance-careful}
use Rattle.admission.proofs.AntichainOrder.{last_of-below}
use Rattle.admission.specs.CarefulRuns.{IsExtended, GoesCarefully}
use Rattle.strip_model.specs.Orbit.{Orbit}
use Rattle.strip_model.specs.declared.end.End.{End}

last_of-pushed : (path : List ℕ) (y : ℕ) → last_of (path ++ y ∷ []) ≡ y
last_of-pushed [] y = refl
last_of-pushed (x ∷ []) y = refl
last_of-pushed (x ∷ z ∷ path) y = last_of-pushed (z ∷ path) y

-- ---- the path of what waits

pub path_in-label : (m : Machine) (w : Wait) → w.rank ≢ 0 → path_in m w ≡ path_of m.state (id_of w)
path_in-label m w some = cond-false (w.rank == 0) [] (path_of m.state (id_of w)) (ne_eqb w.rank 0 some)

pub path_in-root : (m : Machine) (w : Wait) → w.rank ≡ 0 → path_in m w ≡ []
path_in-root m w none = cond-true (w.rank == 0) [] (path_of m.state (id_of w)) (eq-eqb w.rank 0 none)

-- a label's path is that of no live label where the label is dead
path_dead : (m : Machine) (w : Wait) → IsOrderly m.instance m.cut m.state → Names m w → w.rank ≢ 0 → ¬ IsLiveAt m.state (id_of w)
    → ¬ IsLivePath m.state (end_of w) (path_in m w)
path_dead m w o names some dead lives =
    let there : IsThere m.state (id_of w) = names.there some in
    let is : path_in m w ≡ path_of m.state (id_of w) = path_in-label m w some in
    elim lives [
      | inl root ↦ absurd ((o.is_path (id_of w) there).some (sym is ∙ root))
      | inr label ↦
          let same : label.0 ≡ id_of w = o.once label.0 (id_of w) label.2.there there label.1 (label.3 ∙ is) in
          dead (subst (λ (id : Id). IsLiveAt m.state id) same label.2)
    ]

-- ---- another queue over the same antichains

pub Keeps-queue : (m : Machine) (a b : Agenda) → b.forward ≡ a.forward → b.backward ≡ a.backward → ((w : Wait) → Contains b.queue w → Names m w)
    → Keeps m a → Keeps m b
Keeps-queue m a b forward backward named keeps = record {
  reached = keeps.reached;
  forward = rw forward keeps.forward;
  backward = rw backward keeps.backward;
  named = named;
}

-- ---- what comes out of the queue is next

pub IsNext-leaves : (m : Machine) (a b : Agenda) (now : Wait) → b.forward ≡ a.forward → b.backward ≡ a.backward → Leaves now a.queue b.queue
    → IsSearching m a → IsNext m b now
IsNext-leaves m a b now forward backward leaves searching = record {
  keeps = Keeps-queue m a b forward backward (λ w h. searching.keeps.named w (leaves.only w h)) searching.keeps;
  names = searching.keeps.named now leaves.was;
  late = leaves.least;
  waits =
      λ e path lives. elim (searching.waits e path lives) [
        | inl whole ↦ inl (inl whole)
        | inr todo ↦ elim (leaves.kept todo.0 todo.1) [
          | inl still ↦ inl (inr (todo.0, still, todo.2, todo.3))
          | inr taken ↦
              inr (sym todo.2 ∙ ap (λ (w : Wait). end_of w) taken, sym todo.3 ∙ ap (λ (w : Wait). path_in m w) taken)
        ]
      ];
}

-- ---- what becomes of it

-- nothing, where it lives no more
pub IsSearching-dead : (m : Machine) (a : Agenda) (now : Wait) → now.rank ≢ 0 → ¬ IsLiveAt m.state (id_of now) → IsNext m a now → IsSearching m a
IsSearching-dead m a now some dead next = record {
  keeps = next.keeps;
  waits =
      λ e path lives. elim (next.waits e path lives) [
        | inl known ↦ known
        | inr here ↦
            absurd (path_dead m now (IsOrderly-reached m next.keeps.reached) next.names some dead
            (subst (λ (p : List ℕ). IsLivePath m.state (end_of now) p) here.1 (subst (λ (d : End). IsLivePath m.state d path) here.0 lives)))
      ];
}

-- it is extended by all directed strips: there are no others
pub IsExtended-below : (m : Machine) (now : Wait) (n : ℕ) → 2 * length m.instance.strips ≤ n → ((y : ℕ) → y < n → IsExtendedBy m now y)
    → IsExtended m (end_of now) (path_in m now)
IsExtended-below m now n all done z path =
    done z
    (omega (arith, last_of-below m.instance m.cut (end_of now) (path_in m now ++ z ∷ []) path, last_of-pushed (path_in m now) z, all))
    path

pub IsExtended-last : (m : Machine) (a : Agenda) (now : Wait) (y : ℕ) → y ≡ 2 * length m.instance.strips → IsExtending m a now y
    → IsExtended m (end_of now) (path_in m now)
IsExtended-last m a now y all extending = IsExtended-below m now y (omega (arith, all)) extending.done

pub IsSearching-extended : (m : Machine) (a : Agenda) (now : Wait) → IsExtended m (end_of now) (path_in m now) → IsNext m a now → IsSearching m a
IsSearching-extended m a now whole next = record {
  keeps = next.keeps;
  waits =
      λ e path lives. elim (next.waits e path lives) [
        | inl known ↦ known
        | inr here ↦
            inl
            (subst (λ (p : List ℕ). IsExtended m e p) (sym here.1) (subst (λ (d : End). IsExtended m d (path_in m now)) (sym here.0) whole))
      ];
}

-- after a careful run by which it is extended by as many as there were before
pub IsSearching-whole : (budget : ℕ) (m t : Machine) (a : Agenda) (now : Wait) → GoesCarefully budget m t
    → IsExtending t a now (2 * length m.instance.strips) → IsSearching t a
IsSearching-whole budget m t a now run extending =
    IsSearching-extended t a now
    (IsExtended-last t a now (2 * length m.instance.strips)
    (ap (λ (I : Orbit). 2 * length I.strips) (sym (instance-careful budget m run.0 t run.1))) extending)
    extending.next

-- it waits on
pub IsSearching-joins : (m : Machine) (a b : Agenda) (now : Wait) → b.forward ≡ a.forward → b.backward ≡ a.backward → Joins now a.queue b.queue
    → IsNext m a now → IsSearching m b
IsSearching-joins m a b now forward backward joins next = record {
  keeps =
      Keeps-queue m a b forward backward
      (λ w h. elim (joins.only w h) [
        | inl old ↦ next.keeps.named w old
        | inr same ↦ subst (λ (v : Wait). Names m v) (sym same) next.names
      ])
      next.keeps;
  waits =
      λ e path lives. elim (next.waits e path lives) [
        | inl known ↦ elim known [
          | inl whole ↦ inl whole
          | inr todo ↦ inr (todo.0, joins.kept todo.0 todo.1, todo.2, todo.3)
        ]
        | inr here ↦ inr (now, joins.joined, sym here.0, sym here.1)
      ];
}

-- ---- at last

pub IsSearching-same : (m : Machine) (a b : Agenda) → b.forward ≡ a.forward → b.backward ≡ a.backward → b.queue ≡ a.queue → IsSearching m a
    → IsSearching m b
IsSearching-same m a b forward backward queue searching = record {
  keeps =
      Keeps-queue m a b forward backward
      (λ w h. searching.keeps.named w (subst (λ (ws : List Wait). Contains ws w) queue h)) searching.keeps;
  waits =
      λ e path lives. elim (searching.waits e path lives) [
        | inl whole ↦ inl whole
        | inr todo ↦ inr (todo.0, subst (λ (ws : List Wait). Contains ws todo.0) (sym queue) todo.1, todo.2, todo.3)
      ];
}

-- where nothing waits, each root and each live label is extended
pub all_extended : (m : Machine) (a : Agenda) → a.queue ≡ [] → IsSearching m a → (e : End) (path : List ℕ) → IsLivePath m.state e path → IsExtended m e path
all_extended m a none searching e path lives = elim (searching.waits e path lives) [
  | inl whole ↦ whole
  | inr todo ↦
      let nowhere : Contains [] todo.0 = subst (λ (ws : List Wait). Contains ws todo.0) none todo.1 in
      absurd (omega (arith, nowhere.1))
]
