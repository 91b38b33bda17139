-- What waits on after it was looked at.
use Rattle.std.proofs.Common.{true≢false, ◌≡◌, ℕ, ◌+◌, ◌<◌, true, false, Bool, List, [], ◌∷◌, ◌++◌, length, get_or, refl, sym, ◌∙◌, ap, subst, inl, inr, arith}
use Rattle.std.specs.Prelude.{All, Contains, MatchBool}
use Rattle.std.specs.declared.cmp.Reverse.{Reverse}
use Rattle.std.proofs.lemmas.Bool.{cases_Bool, cases_eq}
use Rattle.std.proofs.lemmas.List.{get_or-map, get_or_default, length-map}
use Rattle.closer.proofs.SearchSteps.{Keeps-queue}
use Rattle.closer.specs.Looking.{AreLeft, AreNamed, IsExtendedBy, IsLooked, Lacks, Narrows, first_looks, looked_at}
use Rattle.closer.specs.Searching.{end_of, path_in, IsSearching, Names}
use Rattle.closer.specs.Waiting.{Joins, waits_of}
use Rattle.closer.specs.declared.agenda.Agenda.{Agenda}
use Rattle.closer.specs.declared.looking.Look.{Look}
use Rattle.closer.specs.declared.wait.Wait.{Wait}
use Rattle.label.specs.Labels.{IsLabelOf}
use Rattle.label.specs.declared.label.Label.{Label}
use Rattle.label_core.specs.CoreState.{IsListed}
use Rattle.label_core.specs.Machine.{Machine}
use Rattle.admission.specs.CarefulRuns.{IsExtended}
use Rattle.strip_model.specs.LabelPath.{LabelPath}
use Rattle.strip_model.specs.Side.{face_of}
use Rattle.strip_model.specs.declared.end.End.{End}

-- ---- what waits in looks

-- what a look is at waits
pub look_waits : (looks : List Look) (k : ℕ) (d : Look) → k < length looks → Contains (looked_at looks) (get_or looks k d).wait
look_waits looks k d below = (
  k,
  omega (arith, below, length-map looks (λ (l : Look). l.wait)),
  get_or-map (λ (l : Look). l.wait) looks k d (get_or looks k d).wait below,
)

-- what waits is what some look is at
pub look_at : (looks : List Look) (w : Wait) → Contains (looked_at looks) w → (k : ℕ) × (k < length looks) × ((d : Look) → (get_or looks k d).wait ≡ w)
look_at looks w h =
    let below : h.0 < length looks = omega (arith, h.1, length-map looks (λ (l : Look). l.wait)) in (
      h.0,
      below,
      λ d. sym (get_or-map (λ (l : Look). l.wait) looks h.0 d w below) ∙ h.2,
    )

pub named_looks : (m : Machine) (looks : List Look) (waiting : List Wait) → looked_at looks ≡ waiting → AreNamed m waiting → All (λ (l : Look). Names m l.wait) looks
named_looks m looks waiting is named k d below =
    named (get_or looks k d).wait (subst (λ (ws : List Wait). Contains ws (get_or looks k d).wait) is (look_waits looks k d below))

pub looked_at-first : (waits : List (Reverse Wait)) → looked_at (first_looks waits) ≡ waits_of waits
looked_at-first [] = refl
looked_at-first (r ∷ waits) = ap (λ (ws : List Wait). r.0 ∷ ws) (looked_at-first waits)

-- ---- what is left of them

pub AreLeft-first : (looks : List Look) → AreLeft looks 0 []
AreLeft-first looks = record { only = λ w none. absurd (omega (arith, none.1)); all = λ k d below. absurd (omega (arith, below)) }

-- one look more, in which something may be lacking
AreLeft-joins : (looks : List Look) (n : ℕ) (l : Look) (old new : List Wait) → n < length looks → l ≡ get_or looks n l → Joins l.wait old new
    → AreLeft looks n old → AreLeft looks (n + 1) new
AreLeft-joins looks n l old new below is joins left = record {
  only =
      λ w waits. elim (joins.only w waits) [
        | inl before ↦ left.only w before
        | inr same ↦
            subst (λ (v : Wait). Contains (looked_at looks) v) (sym (same ∙ ap (λ (x : Look). x.wait) is)) (look_waits looks n l below)
      ];
  all =
      λ k d within may. elim (cases_eq k n) [
        | inl last ↦
            subst (λ (v : Wait). Contains new v)
            (ap (λ (x : Look). x.wait) is ∙ ap (λ (x : Look). x.wait) (same_at l d) ∙ ap (λ (j : ℕ). (get_or looks j d).wait) (sym last))
            joins.joined
        | inr other ↦ joins.kept (get_or looks k d).wait (left.all k d (omega (arith, within, other)) may)
      ];
}
  where
    same_at : (c d : Look) → get_or looks n c ≡ get_or looks n d
    same_at c d = get_or_default looks n c d below

-- one look more, which found nothing lacking
AreLeft-skips : (looks : List Look) (n : ℕ) (l : Look) (waiting : List Wait) → n < length looks → l ≡ get_or looks n l → l.may_lack ≡ false
    → AreLeft looks n waiting → AreLeft looks (n + 1) waiting
AreLeft-skips looks n l waiting below is whole left = record {
  only = left.only;
  all =
      λ k d within may. elim (cases_eq k n) [
        | inl last ↦
            let same : l ≡ get_or looks k d = is ∙ get_or_default looks n l d below ∙ ap (λ (j : ℕ). get_or looks j d) (sym last) in
            absurd (true≢false (sym may ∙ ap (λ (x : Look). x.may_lack) (sym same) ∙ whole))
        | inr other ↦ left.all k d (omega (arith, within, other)) may
      ];
}

pub AreLeft-more : (looks : List Look) (n : ℕ) (d : Look) (old new : List Wait) → n < length looks
    → MatchBool (get_or looks n d).may_lack (Joins (get_or looks n d).wait old new) (new ≡ old) → AreLeft looks n old → AreLeft looks (n + 1) new
AreLeft-more looks n d old new below h left =
    let l : Look = get_or looks n d in
    let is : get_or looks n d ≡ get_or looks n (get_or looks n d) = get_or_default looks n d (get_or looks n d) below in
    elim (cases_Bool (get_or looks n d).may_lack) [
      | inl may ↦
          AreLeft-joins looks n l old new below is
          (subst (λ (b : Bool). MatchBool b (Joins (get_or looks n d).wait old new) (new ≡ old)) may h) left
      | inr whole ↦
          let same : new ≡ old = subst (λ (b : Bool). MatchBool b (Joins (get_or looks n d).wait old new) (new ≡ old)) whole h in
          subst (λ (ws : List Wait). AreLeft looks (n + 1) ws) (sym same) (AreLeft-skips looks n l old below is whole left)
    ]

-- ---- the queue after all looks

pub Narrows-refl : (m : Machine) (waiting : List Wait) → Narrows m waiting waiting
Narrows-refl m waiting = record { only = λ w h. h; kept = λ w h. inl h }

pub Narrows-left : (m : Machine) (before later : List Look) (old new : List Wait) → looked_at before ≡ old → length later ≡ length before
    → ((k : ℕ) (d : Look) → k < length before → IsLooked m (get_or before k d) (get_or later k d)) → AreLeft later (length later) new → Narrows m old new
Narrows-left m before later old new is len looked left = record {
  only =
      λ w waits.
      let at : (k : ℕ) × (k < length later) × ((d : Look) → (get_or later k d).wait ≡ w) = look_at later w (left.only w waits) in
      let below : at.0 < length before = omega (arith, at.1, len) in
      subst (λ (ws : List Wait). Contains ws w) is
      (subst (λ (v : Wait). Contains (looked_at before) v) (sym (looked at.0 (look w) below).same ∙ at.2 (look w))
      (look_waits before at.0 (look w) below));
  kept =
      λ w waits.
      let at : (k : ℕ) × (k < length before) × ((d : Look) → (get_or before k d).wait ≡ w) =
      look_at before w (subst (λ (ws : List Wait). Contains ws w) (sym is) waits) in
      let made : IsLooked m (get_or before at.0 (look w)) (get_or later at.0 (look w)) = looked at.0 (look w) at.1 in
      elim (cases_Bool (get_or later at.0 (look w)).may_lack) [
        | inl may ↦
            inl
            (subst (λ (v : Wait). Contains new v) (made.same ∙ at.2 (look w))
            (left.all at.0 (look w) (omega (arith, at.1, len)) may))
        | inr whole ↦ inr (subst (λ (v : Wait). IsExtended m (end_of v) (path_in m v)) (at.2 (look w)) (made.whole whole))
      ];
}
  where
    look : Wait → Look
    look w = record { wait = w; may_lack = true }

-- ---- one extension

-- what the list has is no extension that is missing
pub IsExtendedBy-listed : (m : Machine) (w : Wait) (y : ℕ) (l : Label) → l.path.items ≡ path_in m w ++ y ∷ []
    → IsLabelOf (face_of m.instance m.cut (end_of w)) l → IsListed m.state l.end l.path.items → IsExtendedBy m w y
IsExtendedBy-listed m w y l is label listed path =
    subst (λ (e : End). IsListed m.state e (path_in m w ++ y ∷ [])) label.side
    (subst (λ (p : List ℕ). IsListed m.state l.end p) is listed)

pub Lacks-unlisted : (m : Machine) (w : Wait) (y : ℕ) (l : Label) → l.path.items ≡ path_in m w ++ y ∷ []
    → IsLabelOf (face_of m.instance m.cut (end_of w)) l → ¬ IsListed m.state l.end l.path.items → Lacks m w y
Lacks-unlisted m w y l is label unlisted = record {
  path = subst (λ (p : List ℕ). LabelPath (face_of m.instance m.cut (end_of w)) p) is label.path;
  missing =
      λ listed.
      unlisted
      (subst (λ (e : End). IsListed m.state e l.path.items) (sym label.side)
      (subst (λ (p : List ℕ). IsListed m.state (end_of w) p) (sym is) listed));
}

-- by one directed strip more
pub extended_more : (m : Machine) (w : Wait) (y : ℕ) → ((z : ℕ) → z < y → IsExtendedBy m w z) → IsExtendedBy m w y → (z : ℕ) → z < y + 1 → IsExtendedBy m w z
extended_more m w y before here z below = elim (cases_eq z y) [
  | inl last ↦ subst (λ (x : ℕ). IsExtendedBy m w x) (sym last) here
  | inr other ↦ before z (omega (arith, below, other))
]

-- ---- the search goes on with a narrower queue

pub IsSearching-narrows : (m : Machine) (a b : Agenda) → b.forward ≡ a.forward → b.backward ≡ a.backward → Narrows m a.queue b.queue → IsSearching m a
    → IsSearching m b
IsSearching-narrows m a b forward backward narrows searching = record {
  keeps = Keeps-queue m a b forward backward (λ w h. searching.keeps.named w (narrows.only w h)) searching.keeps;
  waits =
      λ e path lives. elim (searching.waits e path lives) [
        | inl whole ↦ inl whole
        | inr todo ↦ elim (narrows.kept todo.0 todo.1) [
          | inl still ↦ inr (todo.0, still, todo.2, todo.3)
          | inr whole ↦
              inl
              (subst (λ (p : List ℕ). IsExtended m e p) todo.3
              (subst (λ (d : End). IsExtended m d (path_in m todo.0)) todo.2 whole))
        ]
      ];
}
