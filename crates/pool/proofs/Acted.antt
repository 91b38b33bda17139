-- What each call on the board does to a worker's pass.
use Rattle.std.proofs.Common.{◌≡◌, ◌⊎◌, ◌<◌, ◌≤◌, ◌+◌, ℕ, Bool, true, false, List, [], ◌∷◌, ◌++◌, length, max, Option, None, Some, IfErr, IfSome, OnOk, Result, Ok, Err, refl, sym, ap, ◌∙◌, subst, inl, inr, arith, append-nil, length-append}
use Rattle.std.proofs.lemmas.Bool.{cases_lt}
use Rattle.std.proofs.lemmas.List.Elements.{All-nil, All-cons}
use Rattle.std.specs.List.{All}
use mathlib.Core.List.{IsPrefix}
use Rattle.board.specs.Drawing.{IsDrawn}
use Rattle.board.specs.Passes.{LockPass, HalfPass, BoardName, BoardPass, gain, board_of, half_of, with_half, lock_in, lock_at, with_share, HalfChanged}
use Rattle.board.specs.Queues.{IsPushReply, IsNext}
use Rattle.board.specs.Shares.{Seeing, Offering}
use Rattle.board.specs.declared.refusal.Full.{Full}
use Rattle.board.specs.declared.reply.Reply.{Reply}
use Rattle.bucket.specs.Histories.{Step}
use Rattle.bucket.specs.declared.id.Id.{Id}
use Rattle.shared_budget.specs.Calls.{own_after, kept_after, number_of, after_draw}
use Rattle.shared_budget.specs.Drawn.{Drawn}
use Rattle.shared_budget.specs.declared.draw_spent.DrawSpent.{DrawSpent}
use Rattle.incumbent.specs.Better.{better}
use Rattle.incumbent.specs.Offered.{old_of}
use Rattle.incumbent.specs.declared.offered.Offered.{Offered}
use Rattle.plan_check.specs.Publication.{Publication}
use Rattle.pool.proofs.Growing.{lock_self, half_self, drawer_self, grows_self, grows_trans, lawful_self, lawful_trans}
use Rattle.pool.proofs.Handled.{added_none, added_these, handles_none, handles_self, handles_trans, handles_loose}
use Rattle.pool.proofs.LockSteps.{Turned}
use Rattle.pool.specs.Acting.{Works, Acts}
use Rattle.pool.specs.Counts.{insertions, inserted_by, drawn_by, DrawsFew, InsertsFew, number_at_hand, number_unused, Pays, Earns}
use Rattle.pool.specs.Growth.{LockGrows, HalfGrows, Grows, IsLawful}
use Rattle.pool.specs.Handling.{IsLeftOut, IsTakeDone, GaveNone, IsLastGiven}
use Rattle.pool.specs.Seen.{IsSettled}
use Rattle.strip_model.specs.declared.end.End.{End}
use Rattle.strip_model.specs.declared.end.End.TheVariants.{Forward, Backward}
use Rattle.turn_lock.proofs.Prefixes.{prefix_self}

-- ---- nothing, and one after another

pub works_self : (b : BoardName) (l : Option Id) (p : BoardPass) (s : Bool) → Works b l p s p s
works_self b l p s = record {
  grows = grows_self p;
  lawful = lawful_self b p;
  weight = refl;
  handles = handles_self b l p;
  pays = omega arith;
  earns = omega arith;
}

pub works_trans : (b : BoardName) (l : Option Id) (p q r : BoardPass) (s t u : Bool) → Works b l p s q t → Works b l q t r u → Works b l p s r u
works_trans b l p q r s t u v w = record {
  grows = grows_trans p q r v.grows w.grows;
  lawful = lawful_trans b p q r v.lawful w.lawful;
  weight = w.weight ∙ v.weight;
  handles = handles_trans b l p q r v.grows w.grows w.lawful v.handles w.handles;
  pays = (let x : Pays p s q t = v.pays in let y : Pays q t r u = w.pays in omega arith);
  earns = (let x : Earns p s q t = v.earns in let y : Earns q t r u = w.earns in omega arith);
}

pub works_loose : (b : BoardName) (l : Option Id) (p q : BoardPass) (s t : Bool) → Works b None p s q t → Works b l p s q t
works_loose b l p q s t w = record { grows = w.grows; lawful = w.lawful; weight = w.weight; handles = handles_loose b l p q w.handles; pays = w.pays; earns = w.earns }

pub acts_self : (b : BoardName) (l : Option Id) (p : BoardPass) (s : Bool) → Acts b l p s p s
acts_self b l p s = record { works = works_self b l p s; ids = λ e. refl; asked = refl }

pub acts_trans : (b : BoardName) (l : Option Id) (p q r : BoardPass) (s t u : Bool) → Acts b l p s q t → Acts b l q t r u → Acts b l p s r u
acts_trans b l p q r s t u v w = record { works = works_trans b l p q r s t u v.works w.works; ids = λ e. w.ids e ∙ v.ids e; asked = w.asked ∙ v.asked }

pub acts_loose : (b : BoardName) (l : Option Id) (p q : BoardPass) (s t : Bool) → Acts b None p s q t → Acts b l p s q t
acts_loose b l p q s t w = record { works = works_loose b l p q s t w.works; ids = w.ids; asked = w.asked }

-- the pass is of the same board
pub same_board : (b c : BoardName) (l : Option Id) (p q : BoardPass) (s t : Bool) → Works b l p s q t → board_of p ≡ c → board_of q ≡ c
same_board b c l p q s t w is = w.grows.board ∙ is

-- ---- a turn

-- where a number at hand was used for each label that was inserted, so was each that is at hand or refused
unused_turn : (kept : Option ℕ) (s t : Bool) (inserted : ℕ) → number_at_hand s ≡ inserted + number_at_hand t → number_unused kept s ≤ inserted + number_unused kept t
unused_turn None s t inserted paid = omega arith
unused_turn (Some number) s t inserted paid = omega arith

pub turned_acts : (b : BoardName) (l : Option Id) (p q : BoardPass) (e : End) (k : ℕ) (steps : List Step) (s t : Bool) → Turned b p q e k steps
    → All (IsTakeDone b q l e k) steps → number_at_hand s ≡ insertions steps + number_at_hand t → Acts b l p s q t
turned_acts b l p q e k steps s t turn done paid = record {
  works = record {
    grows = turn.grows;
    lawful = turn.lawful;
    weight = turn.weight;
    handles = record {
      given = λ f more is.
          subst (All (λ id. IsLeftOut l id ⊎ IsSettled p q id)) (sym (added_none (half_of p f).ids (half_of q f).ids more (turn.ids f) is)) (All-nil _);
      taken = λ f j more is. elim (turn.own f j) [
        | inl these ↦
            subst (All (IsTakeDone b q l f j)) (sym (added_these (lock_at p f j).own (lock_at q f j).own steps more these.2 is))
            (subst (λ (i : ℕ). All (IsTakeDone b q l f i) steps) (sym these.1) (subst (λ (g : End). All (IsTakeDone b q l g k) steps) (sym these.0) done))
        | inr same ↦ subst (All (IsTakeDone b q l f j)) (sym (added_none (lock_at p f j).own (lock_at q f j).own more same is)) (All-nil _)
      ];
    };
    pays =
        (let i = turn.inserted in
        let d : drawn_by q ≡ drawn_by p = ap (λ (x : Drawn). length x.own) turn.drawer in
        let u = unused_turn p.drawer.kept s t (insertions steps) paid in
        let v : number_unused q.drawer.kept t ≡ number_unused p.drawer.kept t = ap (λ (x : Drawn). number_unused x.kept t) turn.drawer in
        omega arith);
    earns =
        (let i = turn.inserted in
        let d : drawn_by q ≡ drawn_by p = ap (λ (x : Drawn). length x.own) turn.drawer in
        omega arith);
  };
  ids = turn.ids;
  asked = turn.asked;
}

-- the same where the entries insert no label
pub turned_without : (b : BoardName) (l : Option Id) (p q : BoardPass) (e : End) (k : ℕ) (steps : List Step) (s : Bool) → Turned b p q e k steps
    → All (IsTakeDone b q l e k) steps → insertions steps ≡ 0 → Acts b l p s q s
turned_without b l p q e k steps s turn done nothing = turned_acts b l p q e k steps s s turn done (omega arith)

-- ---- a look at the best plan, and an offer

share_acts : (b : BoardName) (l : Option Id) (p q : BoardPass) (plan : Publication) (seen : ℕ) (s : Bool) → q ≡ with_share p plan seen
    → plan.instance ≡ p.plan.instance → gain p.plan ≤ gain plan → p.seen ≤ seen → Acts b l p s q s
share_acts b l p q plan seen s is instance worth look =
    subst (λ (x : BoardPass). Acts b l p s x s) (sym is) (record {
      works = record {
        grows = record {
          board = λ i. record { instance = instance i; forward = p.forward.name; backward = p.backward.name; peak = p.peak; draws = p.drawer.table };
          forward = half_self p.forward;
          backward = half_self p.backward;
          plan = worth;
          seen = look;
          drawer = drawer_self p.drawer;
          asked = prefix_self p.asked;
        };
        lawful = elim [ Forward ↦ λ k. inl refl | Backward ↦ λ k. inl refl ];
        weight = refl;
        handles = handles_none b l p (with_share p plan seen) (elim [ Forward ↦ refl | Backward ↦ refl ]) (elim [ Forward ↦ λ k. refl | Backward ↦ λ k. refl ]);
        pays = omega arith;
        earns = omega arith;
      };
      ids = elim [ Forward ↦ refl | Backward ↦ refl ];
      asked = refl;
    })

pub saw : (b : BoardName) (l : Option Id) (p q : BoardPass) (word : ℕ) (s : Bool) → Seeing p q word → Acts b l p s q s
saw b l p q word s h = share_acts b l p q p.plan word s h.pass refl (omega arith) h.found.seen

pub better_is : (P : Publication → Type 0) (old new : Publication) → (gain old < gain new → P new) → P old → P (better gain old new)
better_is P old new raised kept = elim (cases_lt (gain old) (gain new)) [
  | inl more ↦ better_new more
  | inr no_more ↦ better_old no_more
]
  where
    better_new : gain old < gain new → P (better gain old new)
    better_new more = (let is : better gain old new ≡ new = grind arith in subst P (sym is) (raised more))

    better_old : gain new ≤ gain old → P (better gain old new)
    better_old no_more = (let is : better gain old new ≡ old = grind arith in subst P (sym is) kept)

pub offered : (b : BoardName) (l : Option Id) (p q : BoardPass) (plan : Publication) (answer : Offered) (s : Bool) → Offering p q plan answer
    → plan.instance ≡ p.plan.instance → Acts b l p s q s
offered b l p q plan answer s h instance =
    share_acts b l p q (better gain p.plan plan) (max (old_of answer) (gain plan)) s h.pass
    (better_is (λ x. x.instance ≡ p.plan.instance) p.plan plan (λ more. instance) refl)
    (better_is (λ x. gain p.plan ≤ gain x) p.plan plan (λ more. omega arith) (omega arith))
    (let f = h.found.seen in omega arith)

-- ---- a draw

some_none : {A : Type 0} {a : A} → Some a ≡ None → ⊥
some_none e = cc

own_grows : (kept : Option ℕ) (own : List ℕ) (number : ℕ) → IsPrefix own (own_after kept own number)
own_grows None own number = (number ∷ [], refl)
own_grows (Some n) own number = prefix_self own

-- whether a draw was answered with a number below the budget
abbrev pub is_drawn : Result ℕ DrawSpent → Bool
is_drawn (Ok number) = true
is_drawn (Err spent) = false

-- the number that was drawn is at hand, or it was refused, and so is kept
own_paid : (kept : Option ℕ) (own : List ℕ) (answer : Result ℕ DrawSpent) → OnOk answer (kept ≡ None)
    → length (own_after kept own (number_of answer)) + number_unused kept false ≤ length own + number_unused (kept_after answer) (is_drawn answer)
own_paid None own (Ok number) going = let e = length-append own (number ∷ []) in omega arith
own_paid None own (Err spent) going = let e = length-append own (spent.number ∷ []) in omega arith
own_paid (Some n) own (Ok number) going = absurd (some_none going)
own_paid (Some n) own (Err spent) going = omega arith

-- the number at hand was drawn
own_earned : (kept : Option ℕ) (own : List ℕ) (answer : Result ℕ DrawSpent) → OnOk answer (kept ≡ None)
    → length own + number_at_hand (is_drawn answer) ≤ length (own_after kept own (number_of answer))
own_earned None own (Ok number) going = let e = length-append own (number ∷ []) in omega arith
own_earned None own (Err spent) going = let e = length-append own (spent.number ∷ []) in omega arith
own_earned (Some n) own (Ok number) going = absurd (some_none going)
own_earned (Some n) own (Err spent) going = omega arith

kept_grows : (kept : Option ℕ) (answer : Result ℕ DrawSpent) → OnOk answer (kept ≡ None) → IfErr answer (λ spent. IfSome kept (λ number. spent.number ≡ number))
    → IfSome kept (λ number. kept_after answer ≡ Some number)
kept_grows None answer going keeps = tt
kept_grows (Some n) (Ok number) going keeps = absurd (some_none going)
kept_grows (Some n) (Err spent) going keeps = ap Some keeps

pub drew : (b : BoardName) (l : Option Id) (p q : BoardPass) (answer : Result ℕ DrawSpent) → IsDrawn p q answer → Acts b l p false q (is_drawn answer)
drew b l p q answer h =
    let paid = own_paid p.drawer.kept p.drawer.own answer h.going_on in
    let earned = own_earned p.drawer.kept p.drawer.own answer h.going_on in
    subst (λ (x : BoardPass). Acts b l p false x (is_drawn answer)) (sym h.pass) (record {
      works = record {
        grows = record {
          board = refl;
          forward = half_self p.forward;
          backward = half_self p.backward;
          plan = omega arith;
          seen = omega arith;
          drawer = record {
            own = own_grows p.drawer.kept p.drawer.own (number_of answer);
            joined = prefix_self p.drawer.joined;
            budget = refl;
            kept = kept_grows p.drawer.kept answer h.going_on h.keeps;
          };
          asked = prefix_self p.asked;
        };
        lawful = elim [ Forward ↦ λ k. inl refl | Backward ↦ λ k. inl refl ];
        weight = refl;
        handles = handles_none b l p (record p { drawer = after_draw p.drawer answer }) (elim [ Forward ↦ refl | Backward ↦ refl ]) (elim [ Forward ↦ λ k. refl | Backward ↦ λ k. refl ]);
        pays = omega arith;
        earns = omega arith;
      };
      ids = elim [ Forward ↦ refl | Backward ↦ refl ];
      asked = refl;
    })

-- the number that a refused draw tells is the one that the pass keeps
pub draw_kept : (p q : BoardPass) (spent : DrawSpent) → IsDrawn p q (Err spent) → q.drawer.kept ≡ Some spent.number
draw_kept p q spent h = ap (λ (x : BoardPass). x.drawer.kept) h.pass

-- ---- queues

-- the locks, the names and the weight of a half stand
record SameLocks (h g : HalfPass) : Type 0 where
  locks : g.locks ≡ h.locks
  name : g.name ≡ h.name

same_locks : (h g : HalfPass) → SameLocks h g → IsPrefix h.ids g.ids → HalfGrows h g
same_locks h g same ids = record {
  locks = λ k. subst (λ (ps : List LockPass). LockGrows (lock_in h k) (lock_in (record h { locks = ps }) k)) (sym same.locks) (lock_self (lock_in h k));
  ids = ids;
}

-- a pass with another half at one end, which has the same locks, and with more replies
record HalfOnly (b : BoardName) (p q : BoardPass) : Type 0 where
  grows : Grows p q
  lawful : IsLawful b p q
  weight : q.weight ≡ p.weight
  own : (f : End) (k : ℕ) → (lock_at q f k).own ≡ (lock_at p f k).own
  inserted : inserted_by q ≡ inserted_by p
  drawer : q.drawer ≡ p.drawer

-- the pass with another half at one end, and these replies
abbrev other_at : BoardPass → End → HalfPass → List Reply → BoardPass
other_at p e g asked = record (with_half p e g) { asked = asked }

other_half : (b : BoardName) (p : BoardPass) (e : End) (g : HalfPass) (asked : List Reply) → SameLocks (half_of p e) g → IsPrefix (half_of p e).ids g.ids
    → IsPrefix p.asked asked → HalfOnly b p (other_at p e g asked)
other_half b p Forward g asked same ids more =
    let at : (k : ℕ) → lock_in g k ≡ lock_in p.forward k = λ k. ap (λ (ps : List LockPass). lock_in (record g { locks = ps }) k) same.locks in
    record {
      grows = record {
        board = λ i. record { instance = p.plan.instance; forward = same.name i; backward = p.backward.name; peak = p.peak; draws = p.drawer.table };
        forward = same_locks p.forward g same ids;
        backward = half_self p.backward;
        plan = omega arith;
        seen = omega arith;
        drawer = drawer_self p.drawer;
        asked = more;
      };
      lawful = elim [ Forward ↦ λ k. inl (ap (λ (l : LockPass). l.seen) (at k)) | Backward ↦ λ k. inl refl ];
      weight = refl;
      own = elim [ Forward ↦ λ k. ap (λ (l : LockPass). l.own) (at k) | Backward ↦ λ k. refl ];
      inserted = ap (λ (ps : List LockPass). inserted_by (record p { forward = record p.forward { locks = ps } })) same.locks;
      drawer = refl;
    }
other_half b p Backward g asked same ids more =
    let at : (k : ℕ) → lock_in g k ≡ lock_in p.backward k = λ k. ap (λ (ps : List LockPass). lock_in (record g { locks = ps }) k) same.locks in
    record {
      grows = record {
        board = λ i. record { instance = p.plan.instance; forward = p.forward.name; backward = same.name i; peak = p.peak; draws = p.drawer.table };
        forward = half_self p.forward;
        backward = same_locks p.backward g same ids;
        plan = omega arith;
        seen = omega arith;
        drawer = drawer_self p.drawer;
        asked = more;
      };
      lawful = elim [ Forward ↦ λ k. inl refl | Backward ↦ λ k. inl (ap (λ (l : LockPass). l.seen) (at k)) ];
      weight = refl;
      own = elim [ Forward ↦ λ k. refl | Backward ↦ λ k. ap (λ (l : LockPass). l.own) (at k) ];
      inserted = ap (λ (ps : List LockPass). inserted_by (record p { backward = record p.backward { locks = ps } })) same.locks;
      drawer = refl;
    }

ids_of : (p : BoardPass) (e : End) (g : HalfPass) (asked : List Reply) → g.ids ≡ (half_of p e).ids → (f : End) → (half_of (other_at p e g asked) f).ids ≡ (half_of p f).ids
ids_of p Forward g asked same Forward = same
ids_of p Forward g asked same Backward = refl
ids_of p Backward g asked same Forward = refl
ids_of p Backward g asked same Backward = same

-- no number was drawn, and no label inserted
module _ (b : BoardName) (p q : BoardPass) (s : Bool) (only : HalfOnly b p q) where
  only_pays : Pays p s q s
  only_pays =
      let i = only.inserted in
      let d : drawn_by q ≡ drawn_by p = ap (λ (x : Drawn). length x.own) only.drawer in
      let u : number_unused q.drawer.kept s ≡ number_unused p.drawer.kept s = ap (λ (x : Drawn). number_unused x.kept s) only.drawer in
      omega arith

  only_earns : Earns p s q s
  only_earns =
      let i = only.inserted in
      let d : drawn_by q ≡ drawn_by p = ap (λ (x : Drawn). length x.own) only.drawer in
      omega arith

-- with the replies that it had
same_asked : (p : BoardPass) (e : End) (g : HalfPass) → with_half p e g ≡ other_at p e g p.asked
same_asked p Forward g = refl
same_asked p Backward g = refl

push_same : (h g : HalfPass) (id : Id) (result : Result (Unit {0}) Full) → IsPushReply h g id result → SameLocks h g × (g.ids ≡ h.ids)
push_same h g id (Ok _) r = (record { locks = ap (λ (x : HalfPass). x.locks) r; name = ap (λ (x : HalfPass). x.name) r }, ap (λ (x : HalfPass). x.ids) r)
push_same h g id (Err full) r = (record { locks = ap (λ (x : HalfPass). x.locks) r.1; name = ap (λ (x : HalfPass). x.name) r.1 }, ap (λ (x : HalfPass). x.ids) r.1)

pub pushed : (b : BoardName) (l : Option Id) (p q : BoardPass) (e : End) (id : Id) (result : Result (Unit {0}) Full) (s : Bool)
    → HalfChanged p q e (λ old new. IsPushReply old new id result) → Acts b l p s q s
pushed b l p q e id result s h =
    let g = half_of q e in
    let same = push_same (half_of p e) g id result h.change in
    let only = other_half b p e g p.asked same.0 ([], append-nil (half_of p e).ids ∙ sym same.1) (prefix_self p.asked) in
    subst (λ (x : BoardPass). Acts b l p s x s) (sym (h.others ∙ same_asked p e g)) (record {
      works = record {
        grows = only.grows;
        lawful = only.lawful;
        weight = only.weight;
        handles = handles_none b l p (other_at p e g p.asked) (ids_of p e g p.asked same.1) only.own;
        pays = only_pays b p (other_at p e g p.asked) s only;
        earns = only_earns b p (other_at p e g p.asked) s only;
      };
      ids = ids_of p e g p.asked same.1;
      asked = refl;
    })

-- a queue was asked
module _ (b : BoardName) (p q : BoardPass) (e : End) (s : Bool) where
  abbrev replies : Option Id → List Reply
  replies id = p.asked ++ record { end = e; id = id } ∷ []

  -- and gave none
  pub none_works : IsNext e p q None → Works b None p s q s
  none_works h =
      let g = half_of q e in
      let same : SameLocks (half_of p e) g = record { locks = ap (λ (x : HalfPass). x.locks) h.change.0; name = ap (λ (x : HalfPass). x.name) h.change.0 } in
      let ids : g.ids ≡ (half_of p e).ids = ap (λ (x : HalfPass). x.ids) h.change.0 in
      let reached : BoardPass = other_at p e g (replies None) in
      let only = other_half b p e g (replies None) same ([], append-nil (half_of p e).ids ∙ sym ids) (record { end = e; id = None } ∷ [], refl) in
      subst (λ (x : BoardPass). Works b None p s x s) (sym h.others) (record {
        grows = only.grows;
        lawful = only.lawful;
        weight = only.weight;
        handles = handles_none b None p reached (ids_of p e g (replies None) ids) only.own;
        pays = only_pays b p reached s only;
        earns = only_earns b p reached s only;
      })

  -- and gave an id
  module _ (id : Id) (h : IsNext e p q (Some id)) where
    abbrev reached : BoardPass
    reached = other_at p e (half_of q e) (replies (Some id))

    half_is : half_of q e ≡ record (half_of p e) { ids = (half_of p e).ids ++ id ∷ [] }
    half_is = h.change

    same_then : SameLocks (half_of p e) (half_of q e)
    same_then = record { locks = ap (λ (x : HalfPass). x.locks) half_is; name = ap (λ (x : HalfPass). x.name) half_is }

    ids_then : (half_of q e).ids ≡ (half_of p e).ids ++ id ∷ []
    ids_then = ap (λ (x : HalfPass). x.ids) half_is

    only_then : HalfOnly b p reached
    only_then = other_half b p e (half_of q e) (replies (Some id)) same_then (id ∷ [], sym ids_then) (record { end = e; id = Some id } ∷ [], refl)

    added_at : (f : End) (more : List Id) → (half_of reached f).ids ≡ (half_of p f).ids ++ more → (more ≡ id ∷ []) ⊎ (more ≡ [])
    added_at f more is = at e f (replies (Some id)) ids_then is
      where
        at : (c d : End) (asked : List Reply) → (half_of q c).ids ≡ (half_of p c).ids ++ id ∷ [] → (half_of (other_at p c (half_of q c) asked) d).ids ≡ (half_of p d).ids ++ more
            → (more ≡ id ∷ []) ⊎ (more ≡ [])
        at Forward Forward asked these those = inl (added_these p.forward.ids q.forward.ids (id ∷ []) more these those)
        at Forward Backward asked these those = inr (added_none p.backward.ids p.backward.ids more refl those)
        at Backward Forward asked these those = inr (added_none p.forward.ids p.forward.ids more refl those)
        at Backward Backward asked these those = inl (added_these p.backward.ids q.backward.ids (id ∷ []) more these those)

    pub given_one : Works b (Some id) p s q s
    given_one = subst (λ (x : BoardPass). Works b (Some id) p s x s) (sym h.others) (record {
      grows = only_then.grows;
      lawful = only_then.lawful;
      weight = only_then.weight;
      handles = record {
        given = λ f more is. elim (added_at f more is) [
          | inl this ↦
              subst (All (λ i. (i ≡ id) ⊎ IsSettled p reached i)) (sym this)
              (All-cons (λ i. (i ≡ id) ⊎ IsSettled p reached i) id [] (inl refl) (All-nil _))
          | inr none ↦ subst (All (λ i. (i ≡ id) ⊎ IsSettled p reached i)) (sym none) (All-nil _)
        ];
        taken = λ f k more is.
            subst (All (IsTakeDone b reached (Some id) f k))
            (sym (added_none (lock_at p f k).own (lock_at reached f k).own more (only_then.own f k) is)) (All-nil _);
      };
      pays = only_pays b p reached s only_then;
      earns = only_earns b p reached s only_then;
    })

    pub given_last : IsLastGiven p q (Some id)
    given_last = (
      e,
      p.asked,
      [],
      prefix_self p.asked,
      ap (λ (x : BoardPass). x.asked) h.others,
      All-nil GaveNone,
      (half_of p e).ids,
      prefix_self (half_of p e).ids,
      ids_then,
    )

-- ---- in all

-- a worker that begins with no number at hand draws at most one more than it inserts labels
pub draws_few : (p q : BoardPass) (t : Bool) → Pays p false q t → DrawsFew p q
draws_few p q t pays = let most = unused_most q.drawer.kept t in omega arith
  where
    unused_most : (kept : Option ℕ) (left : Bool) → number_unused kept left ≤ 1
    unused_most None false = omega arith
    unused_most None true = omega arith
    unused_most (Some number) left = omega arith

-- and inserts no more than it draws
pub inserts_few : (p q : BoardPass) (t : Bool) → Earns p false q t → InsertsFew p q
inserts_few p q t earns = omega arith
