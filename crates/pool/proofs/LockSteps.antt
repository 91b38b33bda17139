-- What one turn of a bucket leaves of the pass of its lock, of the half in which that stands, and of the whole pass.
use Rattle.std.proofs.Common.{◌≡◌, ◌≢◌, ◌⊎◌, ◌+◌, ℕ, List, [], ◌++◌, length, get_or, set, sum_by, refl, sym, ap, ◌∙◌, subst, inl, inr, arith, append-nil}
use Rattle.std.proofs.Math.Seq.{set_out}
use Rattle.std.proofs.lemmas.Bool.{cases_eq, cases_lt}
use Rattle.std.proofs.lemmas.List.{get_or-set_other}
use Rattle.std.proofs.lemmas.List.Sums.{sum_by-set, sum_by-append}
use mathlib.Core.List.{IsPrefix}
use Rattle.board.specs.Passes.{LockPass, HalfPass, BoardName, BoardPass, no_lock_pass, gain, board_of, half_of, lock_in, with_lock, lock_at, with_lock_at, side_at}
use Rattle.board.specs.Turns.{Answered, IsSpent}
use Rattle.bucket.specs.Histories.{Step, IsHistory}
use Rattle.label_list.specs.Labels.{Held}
use Rattle.shared_budget.specs.Drawn.{Drawn}
use Rattle.pool.proofs.Growing.{lock_self, half_self, drawer_self}
use Rattle.pool.proofs.Handled.{added_none}
use Rattle.pool.specs.Counts.{inserted_in, insertions, inserted_by_half, inserted_by}
use Rattle.pool.specs.Growth.{LockGrows, HalfGrows, DrawerGrows, Grows, IsLawful}
use Rattle.strip_model.specs.Side.{Face}
use Rattle.strip_model.specs.declared.end.End.{End}
use Rattle.strip_model.specs.declared.end.End.TheVariants.{Forward, Backward}
use Rattle.turn_lock.proofs.Prefixes.{prefix_self, prefix_trans}
use Rattle.turn_lock.specs.declared.turn_spent.TurnSpent.{TurnSpent}

-- these entries were made, and the history that was seen is as it was, or a legal one
pub record LockStep (S : Face) (k : ℕ) (steps : List Step) (old new : LockPass) : Type 0 where
  pub seen : IsPrefix old.seen new.seen
  pub lawful : (new.seen ≡ old.seen) ⊎ IsHistory S k new.seen
  pub own : new.own ≡ old.own ++ steps
  pub joined : new.joined ≡ old.joined

pub answered_step : (S : Face) (k : ℕ) (Answer : Face → List Held → List Step → Type 0) (old new : LockPass) → (a : Answered S k Answer old new)
    → LockStep S k a.steps old new
answered_step S k Answer old new a =
    let seen : new.seen ≡ a.before ++ a.steps = ap (λ (l : LockPass). l.seen) a.pass in
    record {
      seen = prefix_trans old.seen a.before new.seen a.begins (a.steps, sym seen);
      lawful = inr (subst (λ (es : List Step). IsHistory S k es) (sym seen) a.legal);
      own = ap (λ (l : LockPass). l.own) a.pass;
      joined = ap (λ (l : LockPass). l.joined) a.pass;
    }

still_step : (S : Face) (k : ℕ) (p : LockPass) → LockStep S k [] p p
still_step S k p = record { seen = prefix_self p.seen; lawful = inl refl; own = sym (append-nil p.own); joined = refl }

pub spent_step : (S : Face) (k : ℕ) (spent : TurnSpent) (old new : LockPass) → IsSpent spent old new → LockStep S k [] old new
spent_step S k spent old new s = subst (λ (l : LockPass). LockStep S k [] old l) (sym s.pass) (still_step S k old)

-- ---- of a half

module _ (S : Face) (h g : HalfPass) (k : ℕ) (steps : List Step) (others : g ≡ with_lock h k (lock_in g k)) (turn : LockStep S k steps (lock_in h k) (lock_in g k)) where
  locks_are : g.locks ≡ set h.locks k (lock_in g k)
  locks_are = ap (λ (x : HalfPass). x.locks) others

  ids_are : g.ids ≡ h.ids
  ids_are = ap (λ (x : HalfPass). x.ids) others

  other_lock : (j : ℕ) → j ≢ k → lock_in g j ≡ lock_in h j
  other_lock j differ =
      ap (λ (ps : List LockPass). get_or ps j no_lock_pass) locks_are ∙ get_or-set_other h.locks k j (lock_in g k) no_lock_pass differ

  step_grows : HalfGrows h g
  step_grows = record {
    locks = λ j. elim (cases_eq j k) [
      | inl same ↦
          subst (λ (i : ℕ). LockGrows (lock_in h i) (lock_in g i)) (sym same)
          (record { seen = turn.seen; own = (steps, sym turn.own); joined = ([], append-nil (lock_in h k).joined ∙ sym turn.joined) })
      | inr differ ↦ subst (λ (l : LockPass). LockGrows (lock_in h j) l) (sym (other_lock j differ)) (lock_self (lock_in h j))
    ];
    ids = ([], append-nil h.ids ∙ sym ids_are);
  }

  step_lawful : (j : ℕ) → ((lock_in g j).seen ≡ (lock_in h j).seen) ⊎ IsHistory S j (lock_in g j).seen
  step_lawful j = elim (cases_eq j k) [
    | inl same ↦ subst (λ (i : ℕ). ((lock_in g i).seen ≡ (lock_in h i).seen) ⊎ IsHistory S i (lock_in g i).seen) (sym same) turn.lawful
    | inr differ ↦ inl (ap (λ (l : LockPass). l.seen) (other_lock j differ))
  ]

  step_own : (j : ℕ) → ((j ≡ k) × ((lock_in g j).own ≡ (lock_in h j).own ++ steps)) ⊎ ((lock_in g j).own ≡ (lock_in h j).own)
  step_own j = elim (cases_eq j k) [
    | inl same ↦ inl (same, subst (λ (i : ℕ). (lock_in g i).own ≡ (lock_in h i).own ++ steps) (sym same) turn.own)
    | inr differ ↦ inr (ap (λ (l : LockPass). l.own) (other_lock j differ))
  ]

  abbrev inserted_in_lock : LockPass → ℕ
  inserted_in_lock l = insertions l.own

  step_inserted : inserted_by_half g ≡ inserted_by_half h + insertions steps
  step_inserted = elim (cases_lt k (length h.locks)) [
    | inl within ↦
        let set_sum : sum_by inserted_in_lock (set h.locks k (lock_in g k)) + insertions (lock_in h k).own ≡ inserted_by_half h + insertions (lock_in g k).own =
        sum_by-set inserted_in_lock h.locks k (lock_in g k) no_lock_pass within in
        let more : insertions (lock_in g k).own ≡ insertions (lock_in h k).own + insertions steps =
        ap insertions turn.own ∙ sum_by-append inserted_in (lock_in h k).own steps in
        let is : inserted_by_half g ≡ sum_by inserted_in_lock (set h.locks k (lock_in g k)) = ap (sum_by inserted_in_lock) locks_are in
        omega arith
    | inr out ↦
        let same : g.locks ≡ h.locks = locks_are ∙ set_out h.locks k (lock_in g k) out in
        let locks : lock_in g k ≡ lock_in h k = ap (λ (ps : List LockPass). get_or ps k no_lock_pass) same in
        let none : steps ≡ [] = added_none (lock_in h k).own (lock_in g k).own steps (ap (λ (l : LockPass). l.own) locks) turn.own in
        let is : inserted_by_half g ≡ inserted_by_half h = ap (sum_by inserted_in_lock) same in
        let nothing : insertions steps ≡ 0 = ap insertions none in
        omega arith
  ]

-- ---- of a pass

-- what a turn of bucket k at this end with these entries leaves
pub record Turned (b : BoardName) (p q : BoardPass) (e : End) (k : ℕ) (steps : List Step) : Type 0 where
  pub grows : Grows p q
  pub lawful : IsLawful b p q
  pub weight : q.weight ≡ p.weight
  pub ids : (f : End) → (half_of q f).ids ≡ (half_of p f).ids
  pub inserted : inserted_by q ≡ inserted_by p + insertions steps
  pub drawer : q.drawer ≡ p.drawer
  pub asked : q.asked ≡ p.asked
  pub own : (f : End) (j : ℕ) → ((f ≡ e) × (j ≡ k) × ((lock_at q f j).own ≡ (lock_at p f j).own ++ steps)) ⊎ ((lock_at q f j).own ≡ (lock_at p f j).own)

same_half : (h g : HalfPass) → g ≡ h → HalfGrows h g
same_half h g same = subst (λ (x : HalfPass). HalfGrows h x) (sym same) (half_self h)

same_drawer : (d c : Drawn) → c ≡ d → DrawerGrows d c
same_drawer d c same = subst (λ (x : Drawn). DrawerGrows d x) (sym same) (drawer_self d)

pub turned : (b : BoardName) (p q : BoardPass) (e : End) (k : ℕ) (steps : List Step) → q ≡ with_lock_at p e k (lock_at q e k)
    → LockStep (side_at b e) k steps (lock_at p e k) (lock_at q e k) → Turned b p q e k steps
turned b p q Forward k steps others turn =
    let half : q.forward ≡ with_lock p.forward k (lock_in q.forward k) = ap (λ (x : BoardPass). x.forward) others in
    let back : q.backward ≡ p.backward = ap (λ (x : BoardPass). x.backward) others in
    let worth : gain q.plan ≡ gain p.plan = ap (λ (x : BoardPass). gain x.plan) others in
    let look : q.seen ≡ p.seen = ap (λ (x : BoardPass). x.seen) others in
    let more : inserted_by_half q.forward ≡ inserted_by_half p.forward + insertions steps = step_inserted (side_at b Forward) p.forward q.forward k steps half turn in
    let rest : inserted_by_half q.backward ≡ inserted_by_half p.backward = ap inserted_by_half back in
    record {
      grows = record {
        board = ap board_of others;
        forward = step_grows (side_at b Forward) p.forward q.forward k steps half turn;
        backward = same_half p.backward q.backward back;
        plan = omega arith;
        seen = omega arith;
        drawer = same_drawer p.drawer q.drawer (ap (λ (x : BoardPass). x.drawer) others);
        asked = ([], append-nil p.asked ∙ sym (ap (λ (x : BoardPass). x.asked) others));
      };
      lawful = elim [
        | Forward ↦ step_lawful (side_at b Forward) p.forward q.forward k steps half turn
        | Backward ↦ λ j. inl (ap (λ (h : HalfPass). (lock_in h j).seen) back)
      ];
      weight = ap (λ (x : BoardPass). x.weight) others;
      ids = elim [ Forward ↦ ids_are (side_at b Forward) p.forward q.forward k steps half turn | Backward ↦ ap (λ (h : HalfPass). h.ids) back ];
      inserted = omega arith;
      drawer = ap (λ (x : BoardPass). x.drawer) others;
      asked = ap (λ (x : BoardPass). x.asked) others;
      own = elim [
        | Forward ↦ λ j. elim (step_own (side_at b Forward) p.forward q.forward k steps half turn j) [
          | inl these ↦ inl (refl, these.0, these.1)
          | inr same ↦ inr same
        ]
        | Backward ↦ λ j. inr (ap (λ (h : HalfPass). (lock_in h j).own) back)
      ];
    }
turned b p q Backward k steps others turn =
    let half : q.backward ≡ with_lock p.backward k (lock_in q.backward k) = ap (λ (x : BoardPass). x.backward) others in
    let front : q.forward ≡ p.forward = ap (λ (x : BoardPass). x.forward) others in
    let worth : gain q.plan ≡ gain p.plan = ap (λ (x : BoardPass). gain x.plan) others in
    let look : q.seen ≡ p.seen = ap (λ (x : BoardPass). x.seen) others in
    let more : inserted_by_half q.backward ≡ inserted_by_half p.backward + insertions steps = step_inserted (side_at b Backward) p.backward q.backward k steps half turn in
    let rest : inserted_by_half q.forward ≡ inserted_by_half p.forward = ap inserted_by_half front in
    record {
      grows = record {
        board = ap board_of others;
        forward = same_half p.forward q.forward front;
        backward = step_grows (side_at b Backward) p.backward q.backward k steps half turn;
        plan = omega arith;
        seen = omega arith;
        drawer = same_drawer p.drawer q.drawer (ap (λ (x : BoardPass). x.drawer) others);
        asked = ([], append-nil p.asked ∙ sym (ap (λ (x : BoardPass). x.asked) others));
      };
      lawful = elim [
        | Forward ↦ λ j. inl (ap (λ (h : HalfPass). (lock_in h j).seen) front)
        | Backward ↦ step_lawful (side_at b Backward) p.backward q.backward k steps half turn
      ];
      weight = ap (λ (x : BoardPass). x.weight) others;
      ids = elim [ Forward ↦ ap (λ (h : HalfPass). h.ids) front | Backward ↦ ids_are (side_at b Backward) p.backward q.backward k steps half turn ];
      inserted = omega arith;
      drawer = ap (λ (x : BoardPass). x.drawer) others;
      asked = ap (λ (x : BoardPass). x.asked) others;
      own = elim [
        | Forward ↦ λ j. inr (ap (λ (h : HalfPass). (lock_in h j).own) front)
        | Backward ↦ λ j. elim (step_own (side_at b Backward) p.backward q.backward k steps half turn j) [
          | inl these ↦ inl (refl, these.0, these.1)
          | inr same ↦ inr same
        ]
      ];
    }
