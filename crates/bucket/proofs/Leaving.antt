-- What each call leaves of the live labels. That none dominates another follows from this.
use Rattle.std.proofs.Common.{◌≡◌, ℕ, ◌+◌, ◌<◌, ◌≤◌, inl, inr, true, false, List, [], ◌∷◌, ◌++◌, length, get_or, refl, sym, ap, ◌∙◌, subst, arith, Result, Ok, Err, length-append}
use Rattle.std.proofs.Math.Seq.{get_or-append_seam}
use Rattle.std.proofs.lemmas.Bool.{cases_lt, true≢false}
use Rattle.std.proofs.lemmas.List as list
use Rattle.bucket.specs.Buckets.{Bin, held_in, grown, Above, Below, retirements, Inserting}
use Rattle.bucket.specs.Histories.{Step, after_all, Antichain, CanTake}
use Rattle.label_list.specs.Labels.{Held, IsLive, is_live, no_held, path_of, with_state}
use Rattle.bucket.specs.Histories.Step.{Inserts, Retires}
use Rattle.bucket.specs.declared.answers.Inserted.{Inserted}
use Rattle.bucket.specs.declared.answers.Inserted.TheVariants.{Dominated, Live}
use Rattle.bucket.specs.declared.refusal.BucketRefusal.{BucketRefusal}
use Rattle.bucket.specs.declared.refusal.BucketRefusal.TheVariants.{Present, Crowded, Memory}
use Rattle.label_list.specs.declared.state.State.{State}
use Rattle.label_list.specs.declared.state.State.TheVariants.{Waiting, Taken, Cut}
use Rattle.bucket.proofs.Replays.{replay-append, length-with_state}
use Rattle.bucket.proofs.Retired.{IsLive-before, IsLive-taken, IsLive-with_dead, length-retired, path_of-retired, path_of-with_state}
use Rattle.strip_model.proofs.Words.{has_head}
use Rattle.strip_model.specs.Directed.{has}
use Rattle.strip_model.specs.Dominance.{Dominates}
use Rattle.strip_model.specs.Side.{Face}

-- the id of the new label, where it stays live
abbrev pub new_ids : Result Inserted BucketRefusal → List ℕ
new_ids (Ok (Dominated id by)) = []
new_ids (Ok (Live id retired)) = id ∷ []
new_ids (Err e) = []

-- a label that is new and live: it has this path, which no live label dominates, and which dominates none that stays live
pub record Fresh (S : Face) (hs gs : List Held) (path ids : List ℕ) (k : ℕ) : Type 0 where
  pub next : k ≡ length hs
  pub named : has k ids ≡ true
  pub path_is : path_of gs k ≡ path
  pub none_above : (j : ℕ) → ¬ Above S hs path j
  pub none_below : (j : ℕ) → j < length hs → IsLive gs j → ¬ Dominates S.instance path (path_of hs j)

-- From labels to labels: paths stay, none comes to life, and at most one new label with this path is live, whose id is named.
pub record Leaves (S : Face) (hs gs : List Held) (path ids : List ℕ) : Type 0 where
  pub longer : length hs ≤ length gs
  pub same : (k : ℕ) → k < length hs → path_of gs k ≡ path_of hs k
  pub was : (k : ℕ) → k < length hs → IsLive gs k → IsLive hs k
  pub fresh : (k : ℕ) → length hs ≤ k → IsLive gs k → Fresh S hs gs path ids k

-- nothing changes
pub Leaves-none : (S : Face) (hs : List Held) (path : List ℕ) → Leaves S hs hs path []
Leaves-none S hs path = record {
  longer = omega arith;
  same = λ k there. refl;
  was = λ k there live. live;
  fresh = λ k past live. let there : k < length hs = live.there in absurd (omega arith);
}

-- one label has another state, and none came to life
Leaves-marked : (S : Face) (hs : List Held) (path : List ℕ) (id : ℕ) (s : State) → ((k : ℕ) → IsLive (with_state hs id s) k → IsLive hs k)
    → Leaves S hs (with_state hs id s) path []
Leaves-marked S hs path id s was =
    let size : length (with_state hs id s) ≡ length hs = length-with_state hs id s in
    record {
      longer = omega arith;
      same = λ k there. path_of-with_state hs id k s;
      was = λ k there live. was k live;
      fresh = λ k past live. let there : k < length (with_state hs id s) = live.there in absurd (omega arith);
    }

pub Leaves-taken : (S : Face) (hs : List Held) (path : List ℕ) (id : ℕ) → CanTake hs id → Leaves S hs (with_state hs id Taken) path []
Leaves-taken S hs path id can = Leaves-marked S hs path id Taken (λ k live. IsLive-taken hs id k can live)

pub Leaves-cut : (S : Face) (hs : List Held) (path : List ℕ) (id : ℕ) → Leaves S hs (with_state hs id Cut) path []
Leaves-cut S hs path id = Leaves-marked S hs path id Cut (λ k live. (IsLive-with_dead hs id k Cut refl live).0)

-- ---- a new label, and retirements after it

module _ (hs : List Held) (path : List ℕ) (by : ℕ) (ids : List ℕ) where
  pub length-left : length (after_all (hs ++ record { path = path; state = Waiting } ∷ []) (retirements by ids)) ≡ length hs + 1
  length-left =
      length-retired (hs ++ record { path = path; state = Waiting } ∷ []) by ids
      ∙ length-append hs (record { path = path; state = Waiting } ∷ [])

  held-old : (k : ℕ) → k < length hs → get_or (hs ++ record { path = path; state = Waiting } ∷ []) k no_held ≡ get_or hs k no_held
  held-old k there = list.get_or_append_left hs (record { path = path; state = Waiting } ∷ []) no_held k there

  pub same-left : (k : ℕ) → k < length hs → path_of (after_all (hs ++ record { path = path; state = Waiting } ∷ []) (retirements by ids)) k ≡ path_of hs k
  same-left k there =
      path_of-retired (hs ++ record { path = path; state = Waiting } ∷ []) by ids k ∙ ap (λ (h : Held). h.path) (held-old k there)

  pub was-left : (k : ℕ) → k < length hs → IsLive (after_all (hs ++ record { path = path; state = Waiting } ∷ []) (retirements by ids)) k
      → IsLive hs k × (has k ids ≡ false)
  was-left k there live =
      let before : IsLive (hs ++ record { path = path; state = Waiting } ∷ []) k × (has k ids ≡ false)
      = IsLive-before (hs ++ record { path = path; state = Waiting } ∷ []) by ids k live in
      (record { there = there; live = sym (ap (λ (h : Held). is_live h.state) (held-old k there)) ∙ before.0.live }, before.1)

  pub new-left : (k : ℕ) → length hs ≤ k → IsLive (after_all (hs ++ record { path = path; state = Waiting } ∷ []) (retirements by ids)) k
      → (k ≡ length hs) × (has k ids ≡ false)
  new-left k past live =
      let before : IsLive (hs ++ record { path = path; state = Waiting } ∷ []) k × (has k ids ≡ false)
      = IsLive-before (hs ++ record { path = path; state = Waiting } ∷ []) by ids k live in
      let size = length-left in
      let there = live.there in
      (omega arith, before.1)

  pub path-left : path_of (after_all (hs ++ record { path = path; state = Waiting } ∷ []) (retirements by ids)) (length hs) ≡ path
  path-left =
      path_of-retired (hs ++ record { path = path; state = Waiting } ∷ []) by ids (length hs)
      ∙ ap (λ (h : Held). h.path) (get_or-append_seam hs (record { path = path; state = Waiting }) [] no_held)

pub held_in-grown : (old new : Bin) (steps : List Step) → new ≡ grown old steps → held_in new ≡ after_all (held_in old) steps
held_in-grown old new steps grows = ap held_in grows ∙ replay-append old.history steps

Leaves-dominated : (S : Face) (hs : List Held) (path : List ℕ) (id by : ℕ) → id ≡ length hs
    → Leaves S hs (after_all hs (Inserts id path ∷ Retires id by ∷ [])) path []
Leaves-dominated S hs path id by next =
    let size = length-left hs path by (id ∷ []) in
    record {
      longer = omega arith;
      same = same-left hs path by (id ∷ []);
      was = λ k there live. (was-left hs path by (id ∷ []) k there live).0;
      fresh = λ k past live.
          let here : (k ≡ length hs) × (has k (id ∷ []) ≡ false) = new-left hs path by (id ∷ []) k past live in
          absurd (true≢false (sym (has_head k []) ∙ ap (λ j. has k (j ∷ [])) (here.0 ∙ sym next) ∙ here.1));
    }

Leaves-kept : (S : Face) (hs : List Held) (path : List ℕ) (id : ℕ) (ids : List ℕ) → id ≡ length hs
    → ((k : ℕ) → ¬ Above S hs path k) → ((k : ℕ) → k < length hs → Below S hs path k → has k ids ≡ true)
    → Leaves S hs (after_all hs (Inserts id path ∷ retirements id ids)) path (id ∷ [])
Leaves-kept S hs path id ids next none_above all =
    let size = length-left hs path id ids in
    record {
      longer = omega arith;
      same = same-left hs path id ids;
      was = λ k there live. (was-left hs path id ids k there live).0;
      fresh = λ k past live.
          let here : (k ≡ length hs) × (has k ids ≡ false) = new-left hs path id ids k past live in
          record {
            next = here.0;
            named = ap (λ j. has k (j ∷ [])) (next ∙ sym here.0) ∙ has_head k [];
            path_is =
                ap (λ j. path_of (after_all (hs ++ record { path = path; state = Waiting } ∷ []) (retirements id ids)) j) here.0
                ∙ path-left hs path id ids;
            none_above = none_above;
            none_below = λ j there alive dominates.
                let old : IsLive hs j × (has j ids ≡ false) = was-left hs path id ids j there alive in
                absurd (true≢false (sym (all j there (record { live = old.0; dominated = dominates })) ∙ old.1));
          };
    }

Leaves-same : (S : Face) (hs gs ks : List Held) (path ids : List ℕ) → ks ≡ gs → Leaves S hs gs path ids → Leaves S hs ks path ids
Leaves-same S hs gs ks path ids e l = subst (λ (m : List Held). Leaves S hs m path ids) (sym e) l

Leaves-steps : (old new : Bin) (path : List ℕ) (steps : List Step) → new ≡ grown old steps → steps ≡ []
    → Leaves old.side (held_in old) (held_in new) path []
Leaves-steps old new path steps grows none =
    Leaves-same old.side (held_in old) (held_in old) (held_in new) path []
    (held_in-grown old new steps grows ∙ ap (after_all (held_in old)) none) (Leaves-none old.side (held_in old) path)

-- what an insertion leaves
pub Leaves-inserting : (old new : Bin) (path : List ℕ) (r : Result Inserted BucketRefusal) → Inserting old new path r
    → Leaves old.side (held_in old) (held_in new) path (new_ids r)
Leaves-inserting old new path (Ok (Dominated id by)) i =
    Leaves-same old.side (held_in old) (after_all (held_in old) (Inserts id path ∷ Retires id by ∷ [])) (held_in new) path []
    (held_in-grown old new i.steps i.grows ∙ ap (after_all (held_in old)) i.answer.steps_are)
    (Leaves-dominated old.side (held_in old) path id by i.answer.next)
Leaves-inserting old new path (Ok (Live id retired)) i =
    Leaves-same old.side (held_in old) (after_all (held_in old) (Inserts id path ∷ retirements id i.answer.ids)) (held_in new) path (id ∷ [])
    (held_in-grown old new i.steps i.grows ∙ ap (after_all (held_in old)) i.answer.steps_are)
    (Leaves-kept old.side (held_in old) path id i.answer.ids i.answer.next i.answer.none_above i.answer.those.all)
Leaves-inserting old new path (Err (Present id)) i = Leaves-steps old new path i.steps i.grows i.answer.none
Leaves-inserting old new path (Err (Crowded labels)) i = Leaves-steps old new path i.steps i.grows i.answer.none
Leaves-inserting old new path (Err Memory) i = Leaves-steps old new path i.steps i.grows i.answer

-- ---- none dominates another

pub Antichain-leaves : (S : Face) (hs gs : List Held) (path ids : List ℕ) → Leaves S hs gs path ids → Antichain S hs → Antichain S gs
Antichain-leaves S hs gs path ids l a j k live_j live_k differ dominates =
    elim (cases_lt j (length hs)) [
      | inl old_j ↦ elim (cases_lt k (length hs)) [
        | inl old_k ↦
            a j k (l.was j old_j live_j) (l.was k old_k live_k) differ
            (subst (λ (path : List ℕ). Dominates S.instance path (path_of hs k)) (l.same j old_j)
            (subst (λ (path : List ℕ). Dominates S.instance (path_of gs j) path) (l.same k old_k) dominates))
        | inr new_k ↦
            let fresh : Fresh S hs gs path ids k = l.fresh k new_k live_k in
            fresh.none_above j (record {
              live = l.was j old_j live_j;
              dominates =
                  subst (λ (b : List ℕ). Dominates S.instance b path) (l.same j old_j)
                  (subst (λ (a : List ℕ). Dominates S.instance (path_of gs j) a) fresh.path_is dominates);
            })
      ]
      | inr new_j ↦
          let fresh : Fresh S hs gs path ids j = l.fresh j new_j live_j in
          elim (cases_lt k (length hs)) [
            | inl old_k ↦
                fresh.none_below k old_k live_k
                (subst (λ (path : List ℕ). Dominates S.instance path (path_of hs k)) fresh.path_is
                (subst (λ (path : List ℕ). Dominates S.instance (path_of gs j) path) (l.same k old_k) dominates))
            | inr new_k ↦
                let other : Fresh S hs gs path ids k = l.fresh k new_k live_k in
                differ (fresh.next ∙ sym other.next)
          ]
    ]
