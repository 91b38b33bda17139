-- What an insertion on the board leaves.
use Rattle.std.proofs.Common.{◌≡◌, ◌<◌, ◌≤◌, ◌+◌, ℕ, Bool, true, false, List, [], ◌∷◌, ◌++◌, length, Option, Result, Ok, Err, refl, sym, ap, ◌∙◌, subst, arith, append_assoc, append-nil, length-append}
use Rattle.std.proofs.Math.Seq.{get_or-append_seam}
use Rattle.std.proofs.lemmas.List.Elements.{All-nil, All-cons}
use Rattle.std.proofs.lemmas.List.Sums.{sum_by-cons}
use Rattle.std.specs.List.{All}
use mathlib.Core.List.{IsPrefix}
use Rattle.board.specs.Passes.{LockPass, BoardName, BoardPass, lock_at, with_lock_at, side_at, LockChanged}
use Rattle.board.specs.Turns.{Answered, IsSpent, IsInsertReply}
use Rattle.board.specs.declared.refusal.BoardRefusal.{BoardRefusal}
use Rattle.board.specs.declared.refusal.BoardRefusal.TheVariants.{Present, Crowded, Turn, Memory}
use Rattle.bucket.proofs.Replays.{replay-append}
use Rattle.bucket.specs.Buckets.{IsPresent, IsCrowded, IsDominated, IsKept, retirements}
use Rattle.bucket.specs.Histories.{Step, Inserts, Retires, replay, bucket_of}
use Rattle.label_list.specs.Labels.{Held, no_held, path_of}
use Rattle.bucket.specs.declared.answers.Inserted.{Inserted}
use Rattle.bucket.specs.declared.answers.Inserted.TheVariants.{Dominated, Live}
use Rattle.bucket.specs.declared.id.Id.{Id}
use Rattle.bucket.specs.declared.limits.TheConstants.{MAX_LABELS}
use Rattle.label_list.specs.declared.state.State.TheVariants.{Waiting}
use Rattle.pool.proofs.Acted.{turned_acts, turned_without}
use Rattle.pool.proofs.Lasting.{there_still, path_still}
use Rattle.pool.proofs.LockSteps.{answered_step, spent_step, turned}
use Rattle.pool.specs.Acting.{Acts}
use Rattle.pool.specs.Counts.{inserted_in, insertions}
use Rattle.pool.specs.Handling.{IsTakeDone}
use Rattle.pool.specs.Seen.{labels_seen, IsPathSeen}
use Rattle.strip_model.specs.Side.{Face}
use Rattle.strip_model.specs.declared.end.End.{End}
use Rattle.turn_lock.specs.declared.turn_spent.TheConstants.{MOST_TURNS}
use Rattle.turn_lock.specs.declared.turn_spent.TurnSpent.{TurnSpent}

-- a history with a label of this path
abbrev HasPath : List Step → List ℕ → Type 0
HasPath es path = (k : ℕ) × (k < length (replay es)) × (path_of (replay es) k ≡ path)

-- the label that was inserted is there
path_new : (before steps rest seen : List Step) (id : ℕ) (path : List ℕ) → id ≡ length (replay before) → steps ≡ Inserts id path ∷ rest → seen ≡ before ++ steps
    → HasPath seen path
path_new before steps rest seen id path next are is =
    let new : Held = record { path = path; state = Waiting } in
    let mid : List Step = before ++ Inserts id path ∷ [] in
    let labels : replay mid ≡ replay before ++ new ∷ [] = replay-append before (Inserts id path ∷ []) in
    let begins : IsPrefix mid seen =
    (rest, append_assoc before (Inserts id path ∷ []) rest ∙ ap (λ (l : List Step). before ++ l) (sym are) ∙ sym is) in
    let many : length (replay before ++ new ∷ []) ≡ length (replay before) + 1 = length-append (replay before) (new ∷ []) in
    let there : id < length (replay mid) = subst (λ (hs : List Held). id < length hs) (sym labels) (omega arith) in
    let path_is : path_of (replay mid) id ≡ path =
    ap (λ (hs : List Held). path_of hs id) labels
    ∙ ap (λ (k : ℕ). path_of (replay before ++ new ∷ []) k) next
    ∙ ap (λ (h : Held). h.path) (get_or-append_seam (replay before) new [] no_held) in
    (id, there_still mid seen begins id there, path_still mid seen begins id there ∙ path_is)

-- retirements insert no label
none_inserted : (by : ℕ) (ids : List ℕ) → insertions (retirements by ids) ≡ 0
none_inserted by [] = refl
none_inserted by (x ∷ ids) = let rest = none_inserted by ids in let s = sum_by-cons inserted_in (Retires x by) (retirements by ids) in omega arith

-- and take none
none_taken : (b : BoardName) (q : BoardPass) (l : Option Id) (e : End) (k by : ℕ) (ids : List ℕ) → All (IsTakeDone b q l e k) (retirements by ids)
none_taken b q l e k by [] = All-nil _
none_taken b q l e k by (x ∷ ids) = All-cons (IsTakeDone b q l e k) (Retires x by) (retirements by ids) tt (none_taken b q l e k by ids)

-- what an insertion's entries are: one inserts the label, and the others take none
record IsInsertion (b : BoardName) (q : BoardPass) (l : Option Id) (e : End) (k : ℕ) (steps : List Step) : Type 0 where
  one : insertions steps ≡ 1
  none : All (IsTakeDone b q l e k) steps

insertion_of : (b : BoardName) (q : BoardPass) (l : Option Id) (e : End) (k id : ℕ) (path : List ℕ) (steps rest : List Step) → steps ≡ Inserts id path ∷ rest
    → insertions rest ≡ 0 → All (IsTakeDone b q l e k) rest → IsInsertion b q l e k steps
insertion_of b q l e k id path steps rest are nothing none =
    subst (IsInsertion b q l e k) (sym are) (record {
      one = (let s = sum_by-cons inserted_in (Inserts id path) rest in omega arith);
      none = All-cons (IsTakeDone b q l e k) (Inserts id path) rest tt none;
    })

module _ (b : BoardName) (l : Option Id) (p q : BoardPass) (e : End) (path : List ℕ) where
  abbrev reply : Result (Id × Inserted) BoardRefusal → Type 0
  reply result = LockChanged p q e (bucket_of path) (IsInsertReply (side_at b e) e (bucket_of path) path result)

  module _ (Answer : Face → List Held → List Step → Type 0) (others : q ≡ with_lock_at p e (bucket_of path) (lock_at q e (bucket_of path)))
      (a : Answered (side_at b e) (bucket_of path) Answer (lock_at p e (bucket_of path)) (lock_at q e (bucket_of path))) where
    seen_then : (lock_at q e (bucket_of path)).seen ≡ a.before ++ a.steps
    seen_then = ap (λ (x : LockPass). x.seen) a.pass

    -- with no entries the labels are as they were found
    labels_then : a.steps ≡ [] → labels_seen q e (bucket_of path) ≡ replay a.before
    labels_then none = ap replay (seen_then ∙ ap (λ (es : List Step). a.before ++ es) none ∙ append-nil a.before)

    none_acts : (s : Bool) → a.steps ≡ [] → Acts b l p s q s
    none_acts s none =
        turned_without b l p q e (bucket_of path) a.steps s (turned b p q e (bucket_of path) a.steps others (answered_step (side_at b e) (bucket_of path) Answer _ _ a))
        (subst (All (IsTakeDone b q l e (bucket_of path))) (sym none) (All-nil _)) (ap insertions none)

    some_acts : IsInsertion b q l e (bucket_of path) a.steps → Acts b l p true q false
    some_acts is =
        turned_acts b l p q e (bucket_of path) a.steps true false (turned b p q e (bucket_of path) a.steps others (answered_step (side_at b e) (bucket_of path) Answer _ _ a))
        is.none (let o = is.one in omega arith)

  module _ (id : Id) where
    pub insert_dominated : (index by : ℕ) → reply (Ok (id, Dominated index by)) → Acts b l p true q false × IsPathSeen q e path
    insert_dominated index by h =
        let a = h.change.1 in
        let d : IsDominated (side_at b e) (replay a.before) path index by a.steps = a.answer in (
          some_acts _ h.others a
              (insertion_of b q l e (bucket_of path) index path a.steps (Retires index by ∷ []) d.steps_are refl (All-cons (IsTakeDone b q l e (bucket_of path)) (Retires index by) [] tt (All-nil _))),
          path_new a.before a.steps (Retires index by ∷ []) (lock_at q e (bucket_of path)).seen index path d.next d.steps_are (seen_then _ h.others a),
        )

    pub insert_live : (index retired : ℕ) → reply (Ok (id, Live index retired)) → Acts b l p true q false × IsPathSeen q e path
    insert_live index retired h =
        let a = h.change.1 in
        let d : IsKept (side_at b e) (replay a.before) path index retired a.steps = a.answer in (
          some_acts _ h.others a
              (insertion_of b q l e (bucket_of path) index path a.steps (retirements index d.ids) d.steps_are (none_inserted index d.ids) (none_taken b q l e (bucket_of path) index d.ids)),
          path_new a.before a.steps (retirements index d.ids) (lock_at q e (bucket_of path)).seen index path d.next d.steps_are (seen_then _ h.others a),
        )

    pub insert_present : (s : Bool) → reply (Err (Present id)) → Acts b l p s q s × IsPathSeen q e path
    insert_present s h =
        let a = h.change.1 in
        let d : IsPresent (replay a.before) path id.index a.steps = a.answer in (
          none_acts _ h.others a s d.none,
          subst (λ (hs : List Held). (k : ℕ) × (k < length hs) × (path_of hs k ≡ path)) (sym (labels_then _ h.others a d.none)) (id.index, d.there, d.same),
        )

  pub inserted_path : (r : Id × Inserted) → reply (Ok r) → Acts b l p true q false × IsPathSeen q e path
  inserted_path (id, Dominated index by) h = insert_dominated id index by h
  inserted_path (id, Live index retired) h = insert_live id index retired h

  pub insert_crowded : (s : Bool) (labels : ℕ) → reply (Err (Crowded labels))
      → Acts b l p s q s × (labels ≡ MAX_LABELS) × (length (labels_seen q e (bucket_of path)) ≡ MAX_LABELS)
  insert_crowded s labels h =
      let a = h.change in
      let d : IsCrowded (replay a.before) path labels a.steps = a.answer in (
        none_acts _ h.others a s d.none,
        d.count ∙ d.full,
        ap length (labels_then _ h.others a d.none) ∙ d.full,
      )

  pub insert_memory : (s : Bool) → reply (Err Memory) → Acts b l p s q s
  insert_memory s h = none_acts _ h.others h.change s h.change.answer

  pub insert_spent : (s : Bool) (spent : TurnSpent) → reply (Err (Turn spent))
      → Acts b l p s q s × (spent.count ≡ MOST_TURNS) × ((lock_at q e (bucket_of path)).turns ≡ MOST_TURNS)
  insert_spent s spent h =
      let d : IsSpent spent (lock_at p e (bucket_of path)) (lock_at q e (bucket_of path)) = h.change in (
        turned_without b l p q e (bucket_of path) [] s (turned b p q e (bucket_of path) [] h.others (spent_step (side_at b e) (bucket_of path) spent _ _ d)) (All-nil _) refl,
        d.count,
        ap (λ (x : LockPass). x.turns) d.pass ∙ d.turns,
      )
