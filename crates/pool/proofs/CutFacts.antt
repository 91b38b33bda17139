-- What cutting a label on the board leaves.
use Rattle.std.proofs.Common.{◌≡◌, ◌<◌, ◌≤◌, ℕ, Bool, false, List, [], ◌∷◌, ◌++◌, length, Option, Result, Ok, Err, refl, sym, ap, ◌∙◌, subst, inl, inr, arith, append-nil}
use Rattle.std.proofs.lemmas.List.Elements.{All-nil, All-cons}
use Rattle.std.specs.List.{All}
use Rattle.board.specs.Passes.{LockPass, BoardName, BoardPass, lock_at, with_lock_at, with_share, side_at}
use Rattle.board.specs.Turns.{Answered, IsSpent, IsCutReply, Cutting}
use Rattle.bucket.proofs.Replays.{replay-append}
use Rattle.bucket.proofs.Retired.{state_of-with_state}
use Rattle.bucket.specs.Buckets.{IsDead, IsCut}
use Rattle.bucket.specs.Histories.{Step, Cuts, replay}
use Rattle.label_list.specs.Labels.{Held, is_live, state_of, with_state}
use Rattle.bucket.specs.declared.answers.CutAnswer.{CutAnswer}
use Rattle.bucket.specs.declared.answers.CutAnswer.TheVariants.{Gone, Higher, Done}
use Rattle.bucket.specs.declared.id.Id.{Id}
use Rattle.label_list.specs.declared.state.State.{State}
use Rattle.label_list.specs.declared.state.State.TheVariants.{Waiting, Cut}
use Rattle.pool.proofs.Acted.{saw, turned_without, acts_self, acts_trans}
use Rattle.pool.proofs.Lasting.{no_fewer}
use Rattle.pool.proofs.LockSteps.{answered_step, spent_step, turned}
use Rattle.pool.specs.Acting.{Acts}
use Rattle.pool.specs.Counts.{insertions}
use Rattle.pool.specs.Handling.{IsTakeDone}
use Rattle.pool.specs.Seen.{labels_seen, IsSeen, state_seen}
use Rattle.strip_model.specs.Side.{Face}
use Rattle.strip_model.specs.declared.end.End.{End}
use Rattle.strip_model.specs.declared.end.End.TheVariants.{Forward, Backward}
use Rattle.turn_lock.specs.declared.turn_spent.TheConstants.{MOST_TURNS}
use Rattle.turn_lock.specs.declared.turn_spent.TurnSpent.{TurnSpent}

done_gone : (a : CutAnswer) (state : State) → a ≡ Done → a ≡ Gone state → ⊥
done_gone a state is gone = cc

ok_gone : (r : Result CutAnswer TurnSpent) (state : State) → r ≡ Ok Done → r ≡ Ok (Gone state) → ⊥
ok_gone r state is gone = cc

err_gone : (r : Result CutAnswer TurnSpent) (spent : TurnSpent) (state : State) → r ≡ Err spent → r ≡ Ok (Gone state) → ⊥
err_gone r spent state is gone = cc

module _ (b : BoardName) (l : Option Id) (p q : BoardPass) (id : Id) (s : Bool) where
  module _ (Answer : Face → List Held → List Step → Type 0) (others : q ≡ with_lock_at p id.end id.bucket (lock_at q id.end id.bucket))
      (a : Answered (side_at b id.end) id.bucket Answer (lock_at p id.end id.bucket) (lock_at q id.end id.bucket)) where
    seen_then : (lock_at q id.end id.bucket).seen ≡ a.before ++ a.steps
    seen_then = ap (λ (x : LockPass). x.seen) a.pass

    some_acts : All (IsTakeDone b q l id.end id.bucket) a.steps → insertions a.steps ≡ 0 → Acts b l p s q s
    some_acts =
        turned_without b l p q id.end id.bucket a.steps s (turned b p q id.end id.bucket a.steps others (answered_step (side_at b id.end) id.bucket Answer _ _ a))

    none_acts : a.steps ≡ [] → Acts b l p s q s
    none_acts none = some_acts (subst (All (IsTakeDone b q l id.end id.bucket)) (sym none) (All-nil _)) (ap insertions none)

    fewer : length (labels_seen p id.end id.bucket) ≤ length (replay a.before)
    fewer = no_fewer (lock_at p id.end id.bucket).seen a.before a.begins

    gone_dead : (state : State) → IsDead (replay a.before) id.index state a.steps → is_live (state_seen q id) ≡ false
    gone_dead state d =
        ap (λ (es : List Step). is_live (state_of (replay es) id.index)) (seen_then ∙ ap (λ (es : List Step). a.before ++ es) d.none ∙ append-nil a.before) ∙ d.dead

    cut_dead : (value : ℕ) → id.index < length (replay a.before) → IsCut (side_at b id.end) (replay a.before) id.index value a.steps → is_live (state_seen q id) ≡ false
    cut_dead value there d =
        let labels : labels_seen q id.end id.bucket ≡ with_state (replay a.before) id.index Cut =
        ap replay (seen_then ∙ ap (λ (es : List Step). a.before ++ es) d.steps_are) ∙ replay-append a.before (Cuts id.index ∷ []) in
        ap (λ (hs : List Held). is_live (state_of hs id.index)) labels ∙ ap is_live (state_of-with_state (replay a.before) id.index Cut there)

  still_acts : q ≡ p → Acts b l p s q s
  still_acts same = subst (λ (x : BoardPass). Acts b l p s x s) (sym same) (acts_self b l p s)

  replied_done : (value : ℕ) → IsCutReply b id value (Ok Done) p q → Acts b l p s q s × (IsSeen p id → is_live (state_seen q id) ≡ false)
  replied_done value h = elim h [
    | inl here ↦ elim here.1.change.answer [
      | inl is ↦
          let a = here.1.change in (
            some_acts _ here.1.others a (subst (All (IsTakeDone b q l id.end id.bucket)) (sym is.1.steps_are)
                (All-cons (IsTakeDone b q l id.end id.bucket) (Cuts id.index) [] tt (All-nil _))) (ap insertions is.1.steps_are),
            λ seen. cut_dead _ here.1.others a value is.0 is.1,
          )
      | inr none ↦ absurd (done_gone Done Waiting refl none.1)
    ]
    | inr no_bucket ↦ absurd (ok_gone (Ok Done) Waiting refl no_bucket.1)
  ]

  replied_gone : (value : ℕ) (state : State) → IsCutReply b id value (Ok (Gone state)) p q → Acts b l p s q s × (IsSeen p id → is_live (state_seen q id) ≡ false)
  replied_gone value state h = elim h [
    | inl here ↦ elim here.1.change.answer [
      | inl is ↦
          let a = here.1.change in
          (none_acts _ here.1.others a is.1.none, λ seen. gone_dead _ here.1.others a state is.1)
      | inr none ↦
          let a = here.1.change in
          (none_acts _ here.1.others a none.2, λ seen. absurd (let f = fewer _ here.1.others a in let t = seen.there in let n = none.0 in omega arith))
    ]
    | inr no_bucket ↦ (still_acts no_bucket.2, λ seen. absurd (let t = seen.bucket in let n = no_bucket.0 in omega arith))
  ]

  replied_higher : (value bound : ℕ) → IsCutReply b id value (Ok (Higher bound)) p q → Acts b l p s q s
  replied_higher value bound h = elim h [
    | inl here ↦ elim here.1.change.answer [
      | inl is ↦ none_acts _ here.1.others here.1.change is.1.none
      | inr none ↦ none_acts _ here.1.others here.1.change none.2
    ]
    | inr no_bucket ↦ still_acts no_bucket.2
  ]

  replied_spent : (value : ℕ) (spent : TurnSpent) → IsCutReply b id value (Err spent) p q
      → Acts b l p s q s × (spent.count ≡ MOST_TURNS) × ((lock_at q id.end id.bucket).turns ≡ MOST_TURNS)
  replied_spent value spent h = elim h [
    | inl here ↦
        let d : IsSpent spent (lock_at p id.end id.bucket) (lock_at q id.end id.bucket) = here.1.change in (
          turned_without b l p q id.end id.bucket [] s (turned b p q id.end id.bucket [] here.1.others (spent_step (side_at b id.end) id.bucket spent _ _ d)) (All-nil _) refl,
          d.count,
          ap (λ (x : LockPass). x.turns) d.pass ∙ d.turns,
        )
    | inr no_bucket ↦ absurd (err_gone (Err spent) spent Waiting refl no_bucket.1)
  ]

-- ---- after a look at the word

module _ (b : BoardName) (l : Option Id) (p q : BoardPass) (id : Id) (s : Bool) where
  first_look : (result : Result CutAnswer TurnSpent) (h : Cutting b id result p q) → Acts b l p s (with_share p p.plan h.value) s
  first_look result h = saw b l p (with_share p p.plan h.value) h.value s (record { found = h.found; pass = refl })

  -- the look changes no lock
  seen_by_look : (value : ℕ) → IsSeen p id → IsSeen (with_share p p.plan value) id
  seen_by_look value seen = record { bucket = seen.bucket; there = same_there id.end seen.there }
    where
      same_there : (e : End) → id.index < length (labels_seen p e id.bucket) → id.index < length (labels_seen (with_share p p.plan value) e id.bucket)
      same_there Forward there = there
      same_there Backward there = there

  pub cut_done : Cutting b id (Ok Done) p q → Acts b l p s q s × (IsSeen p id → is_live (state_seen q id) ≡ false)
  cut_done h =
      let r = replied_done b l (with_share p p.plan h.value) q id s h.value h.reply in
      (acts_trans b l p (with_share p p.plan h.value) q s s s (first_look (Ok Done) h) r.0, λ seen. r.1 (seen_by_look h.value seen))

  pub cut_gone : (state : State) → Cutting b id (Ok (Gone state)) p q → Acts b l p s q s × (IsSeen p id → is_live (state_seen q id) ≡ false)
  cut_gone state h =
      let r = replied_gone b l (with_share p p.plan h.value) q id s h.value state h.reply in
      (acts_trans b l p (with_share p p.plan h.value) q s s s (first_look (Ok (Gone state)) h) r.0, λ seen. r.1 (seen_by_look h.value seen))

  pub cut_higher : (bound : ℕ) → Cutting b id (Ok (Higher bound)) p q → Acts b l p s q s
  cut_higher bound h =
      acts_trans b l p (with_share p p.plan h.value) q s s s (first_look (Ok (Higher bound)) h)
      (replied_higher b l (with_share p p.plan h.value) q id s h.value bound h.reply)

  pub cut_spent : (spent : TurnSpent) → Cutting b id (Err spent) p q
      → Acts b l p s q s × (spent.count ≡ MOST_TURNS) × ((lock_at q id.end id.bucket).turns ≡ MOST_TURNS)
  cut_spent spent h =
      let r = replied_spent b l (with_share p p.plan h.value) q id s h.value spent h.reply in
      (acts_trans b l p (with_share p p.plan h.value) q s s s (first_look (Err spent) h) r.0, r.1, r.2)
