-- What taking a label on the board leaves.
use Rattle.std.proofs.Common.{◌≡◌, ◌≢◌, ◌<◌, ◌≤◌, Bool, List, [], ◌∷◌, ◌++◌, length, Option, None, Some, Result, Ok, Err, refl, sym, ap, ◌∙◌, subst, inl, inr, arith, append-nil}
use Rattle.std.proofs.lemmas.List.Elements.{All-nil, All-cons}
use Rattle.std.specs.List.{All}
use Rattle.board.specs.Passes.{LockPass, BoardName, BoardPass, lock_at, with_lock_at, side_at}
use Rattle.board.specs.Turns.{Answered, IsSpent, IsTakeReply}
use Rattle.board.specs.declared.refusal.TakeRefusal.{TakeRefusal}
use Rattle.board.specs.declared.refusal.TakeRefusal.TheVariants.{Turn, Memory}
use Rattle.bucket.proofs.Replays.{replay-append, length-with_state}
use Rattle.bucket.proofs.Retired.{path_of-with_state, state_of-with_state}
use Rattle.bucket.specs.Buckets.{IsTaken}
use Rattle.bucket.specs.Histories.{Step, Takes, replay}
use Rattle.label_list.specs.Labels.{Held, path_of, state_of, with_state}
use Rattle.bucket.specs.declared.answers.Taken.{Taken}
use Rattle.bucket.specs.declared.answers.Taken.TheVariants.{Label as TheLabel, Gone}
use Rattle.bucket.specs.declared.id.Id.{Id}
use Rattle.bucket.specs.declared.limits.TheConstants.{BUCKETS}
use Rattle.label_list.specs.declared.state.State.{State}
use Rattle.label_list.specs.declared.state.State.TheVariants.{Waiting, Taken as IsTakenState}
use Rattle.label.specs.Labels.{IsLabelOf}
use Rattle.label.specs.declared.label.Label.{Label}
use Rattle.pool.proofs.Acted.{turned_without, acts_self}
use Rattle.pool.proofs.Lasting.{no_fewer}
use Rattle.pool.proofs.LockSteps.{answered_step, spent_step, turned}
use Rattle.pool.specs.Acting.{Acts}
use Rattle.pool.specs.Counts.{insertions}
use Rattle.pool.specs.Handling.{IsTakeDone}
use Rattle.pool.specs.Seen.{labels_seen, IsSeen, IsSettled, path_seen, state_seen}
use Rattle.strip_model.specs.Side.{Face}
use Rattle.turn_lock.specs.declared.turn_spent.TheConstants.{MOST_TURNS}
use Rattle.turn_lock.specs.declared.turn_spent.TurnSpent.{TurnSpent}

-- the label was taken
pub record Took (b : BoardName) (p q : BoardPass) (id : Id) (label : Label) (s : Bool) : Type 0 where
  pub acts : Acts b (Some id) p s q s
  pub seen : IsSeen q id
  pub waits_not : state_seen q id ≢ Waiting
  pub path : path_seen q id ≡ label.path.items
  pub of : IsLabelOf (side_at b id.end) label

label_gone : {E : Type 0} (label : Label) (state : State) (r : Result Taken E) → r ≡ Ok (TheLabel label) → r ≡ Ok (Gone state) → ⊥
label_gone label state r is gone = cc

refused_gone : (refusal : TakeRefusal) (state : State) (r : Result Taken TakeRefusal) → r ≡ Err refusal → r ≡ Ok (Gone state) → ⊥
refused_gone refusal state r is gone = cc

module _ (b : BoardName) (p q : BoardPass) (id : Id) (s : Bool) where
  module _ (Answer : Face → List Held → List Step → Type 0) (others : q ≡ with_lock_at p id.end id.bucket (lock_at q id.end id.bucket))
      (a : Answered (side_at b id.end) id.bucket Answer (lock_at p id.end id.bucket) (lock_at q id.end id.bucket)) where
    seen_then : (lock_at q id.end id.bucket).seen ≡ a.before ++ a.steps
    seen_then = ap (λ (x : LockPass). x.seen) a.pass

    labels_then : a.steps ≡ [] → labels_seen q id.end id.bucket ≡ replay a.before
    labels_then none = ap replay (seen_then ∙ ap (λ (es : List Step). a.before ++ es) none ∙ append-nil a.before)

    fewer : length (labels_seen p id.end id.bucket) ≤ length (replay a.before)
    fewer = no_fewer (lock_at p id.end id.bucket).seen a.before a.begins

    none_acts : (l : Option Id) → a.steps ≡ [] → Acts b l p s q s
    none_acts l none =
        turned_without b l p q id.end id.bucket a.steps s (turned b p q id.end id.bucket a.steps others (answered_step (side_at b id.end) id.bucket Answer _ _ a))
        (subst (All (IsTakeDone b q l id.end id.bucket)) (sym none) (All-nil _)) (ap insertions none)

    taken_then : (label : Label) → id.bucket < BUCKETS → id.index < length (replay a.before) → IsTaken (side_at b id.end) (replay a.before) id.index label a.steps
        → Took b p q id label s
    taken_then label small there t =
        let labels : labels_seen q id.end id.bucket ≡ with_state (replay a.before) id.index IsTakenState =
        ap replay (seen_then ∙ ap (λ (es : List Step). a.before ++ es) t.steps_are) ∙ replay-append a.before (Takes id.index ∷ []) in
        record {
          acts = turned_without b (Some id) p q id.end id.bucket a.steps s
              (turned b p q id.end id.bucket a.steps others (answered_step (side_at b id.end) id.bucket Answer _ _ a))
              (subst (All (IsTakeDone b q (Some id) id.end id.bucket)) (sym t.steps_are)
              (All-cons (IsTakeDone b q (Some id) id.end id.bucket) (Takes id.index) [] (inl refl) (All-nil _))) (ap insertions t.steps_are);
          seen = record {
            bucket = small;
            there = subst (λ (hs : List Held). id.index < length hs) (sym labels)
                (let e : length (with_state (replay a.before) id.index IsTakenState) ≡ length (replay a.before) = length-with_state (replay a.before) id.index IsTakenState in omega arith);
          };
          waits_not = λ waits. taken_waits (sym (ap (λ (hs : List Held). state_of hs id.index) labels ∙ state_of-with_state (replay a.before) id.index IsTakenState there) ∙ waits);
          path = ap (λ (hs : List Held). path_of hs id.index) labels ∙ path_of-with_state (replay a.before) id.index id.index IsTakenState ∙ sym t.same;
          of = t.label_of;
        }
      where
        taken_waits : IsTakenState ≡ Waiting → ⊥
        taken_waits e = cc

  pub took : (label : Label) → IsTakeReply b id (Ok (TheLabel label)) p q → Took b p q id label s
  took label h = elim h [
    | inl here ↦ elim here.1.change.answer [
      | inl is ↦ taken_then _ here.1.others here.1.change label here.0 is.0 is.1
      | inr none ↦ absurd (label_gone label Waiting (Ok (TheLabel label)) refl none.1)
    ]
    | inr no_bucket ↦ absurd (label_gone label Waiting (Ok (TheLabel label)) refl no_bucket.1)
  ]

  pub took_none : (state : State) → IsTakeReply b id (Ok (Gone state)) p q → Acts b None p s q s × IsSettled p q id
  took_none state h = elim h [
    | inl here ↦ elim here.1.change.answer [
      | inl is ↦
          let a = here.1.change in
          let labels = labels_then _ here.1.others a is.1.none in (
            none_acts _ here.1.others a None is.1.none,
            inr (
              record { bucket = here.0; there = subst (λ (hs : List Held). id.index < length hs) (sym labels) is.0 },
              λ waits. is.1.waits_not (sym (ap (λ (hs : List Held). state_of hs id.index) labels) ∙ waits),
            ),
          )
      | inr none ↦
          let a = here.1.change in
          let f = fewer _ here.1.others a in
          (none_acts _ here.1.others a None none.2, inl (inr (let n = none.0 in omega arith)))
    ]
    | inr no_bucket ↦ (subst (λ (x : BoardPass). Acts b None p s x s) (sym no_bucket.2) (acts_self b None p s), inl (inl no_bucket.0))
  ]

  pub take_memory : (l : Option Id) → IsTakeReply b id (Err Memory) p q → Acts b l p s q s
  take_memory l h = elim h [
    | inl here ↦ none_acts _ here.1.others here.1.change l here.1.change.answer.1
    | inr no_bucket ↦ absurd (refused_gone Memory Waiting (Err Memory) refl no_bucket.1)
  ]

  pub take_spent : (l : Option Id) (spent : TurnSpent) → IsTakeReply b id (Err (Turn spent)) p q
      → Acts b l p s q s × (spent.count ≡ MOST_TURNS) × ((lock_at q id.end id.bucket).turns ≡ MOST_TURNS)
  take_spent l spent h = elim h [
    | inl here ↦
        let d : IsSpent spent (lock_at p id.end id.bucket) (lock_at q id.end id.bucket) = here.1.change in (
          turned_without b l p q id.end id.bucket [] s (turned b p q id.end id.bucket [] here.1.others (spent_step (side_at b id.end) id.bucket spent _ _ d)) (All-nil _) refl,
          d.count,
          ap (λ (x : LockPass). x.turns) d.pass ∙ d.turns,
        )
    | inr no_bucket ↦ absurd (refused_gone (Turn spent) Waiting (Err (Turn spent)) refl no_bucket.1)
  ]
