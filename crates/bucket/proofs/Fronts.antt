-- What the antichains of a bucket keep, however its labels change.
use Rattle.std.proofs.Common.{◌≡◌, ◌≢◌, ℕ, ◌+◌, ◌<◌, ◌≤◌, inl, inr, true, false, List, [], ◌∷◌, length, refl, sym, ap, ◌∙◌, subst, arith}
use Rattle.std.proofs.lemmas.Bool.{cases_Bool, cases_eq, cases_lt, true≢false}
use Rattle.std.specs.Prelude.{◌↔◌}
use Rattle.antichain.proofs.Changes.{IsAntichainOf-same, has-inserted, has-inserted_new, has-inserted_old}
use Rattle.antichain.specs.Antichains.{ids_of, IsAntichainOf, IsInserted}
use Rattle.antichain.specs.declared.member.Member.{Member}
use Rattle.bucket.specs.Fronts.{EndsWith, IsFront}
use Rattle.label_list.proofs.Labels.{IsLive-other, IsLive-taken, IsLive-with_dead, length-with_state, path_of-with_state, state_of-with_state}
use Rattle.label_list.specs.Labels.{Held, IsLive, is_live, path_of, state_of, last_of, with_state}
use Rattle.label_list.specs.declared.state.State.TheVariants.{Waiting, Taken, Cut}
use Rattle.strip_model.proofs.Words.{has_head}
use Rattle.strip_model.specs.Directed.{has}
use Rattle.strip_model.specs.Side.{Face}
use Rattle.strip_set.proofs.Members.{has-tail}

-- From labels to labels: paths stay, of those that were live the named ones died and no others, and what is new and live has
-- this path.
pub record Turns (hs gs : List Held) (path gone : List ℕ) : Type 0 where
  pub longer : length hs ≤ length gs
  pub same : (k : ℕ) → k < length hs → path_of gs k ≡ path_of hs k
  pub stays : (k : ℕ) → IsLive hs k → has k gone ≡ false → IsLive gs k
  pub was : (k : ℕ) → k < length hs → IsLive gs k → IsLive hs k × (has k gone ≡ false)
  pub new : (k : ℕ) → length hs ≤ k → IsLive gs k → path_of gs k ≡ path

-- ---- what happens to labels

-- nothing changes
pub Turns-none : (hs : List Held) (path : List ℕ) → Turns hs hs path []
Turns-none hs path = record {
  longer = omega arith;
  same = λ k there. refl;
  stays = λ k live fine. live;
  was = λ k there live. (live, refl);
  new = λ k past live. let there : k < length hs = live.there in absurd (omega arith);
}

-- a label that waited was taken
pub Turns-taken : (hs : List Held) (path : List ℕ) (id : ℕ) → id < length hs → state_of hs id ≡ Waiting → Turns hs (with_state hs id Taken) path []
Turns-taken hs path id there waits =
    let size : length (with_state hs id Taken) ≡ length hs = length-with_state hs id Taken in
    record {
      longer = omega arith;
      same = λ k inside. path_of-with_state hs id k Taken;
      stays = λ k live fine. elim (cases_eq k id) [
        | inl here ↦ subst (λ (j : ℕ). IsLive (with_state hs id Taken) j) (sym here)
            (record { there = omega arith; live = ap is_live (state_of-with_state hs id Taken there) })
        | inr differ ↦ IsLive-other hs id k Taken differ live
      ];
      was = λ k inside live. (IsLive-taken hs id k there waits live, refl);
      new = λ k past live. let within : k < length (with_state hs id Taken) = live.there in absurd (omega arith);
    }

-- a label was cut
pub Turns-cut : (hs : List Held) (path : List ℕ) (id : ℕ) → Turns hs (with_state hs id Cut) path (id ∷ [])
Turns-cut hs path id =
    let size : length (with_state hs id Cut) ≡ length hs = length-with_state hs id Cut in
    record {
      longer = omega arith;
      same = λ k inside. path_of-with_state hs id k Cut;
      stays = λ k live fine. IsLive-other hs id k Cut (λ e. true≢false (sym (has_head k []) ∙ ap (λ (j : ℕ). has k (j ∷ [])) e ∙ fine)) live;
      was = λ k inside live.
          let before : IsLive hs k × (k ≢ id) = IsLive-with_dead hs id k Cut refl live in
          (before.0, has-tail k id [] (λ e. before.1 (sym e)));
      new = λ k past live. let within : k < length (with_state hs id Cut) = live.there in absurd (omega arith);
    }

-- ---- what happens to an antichain

module _ (S : Face) (hs gs : List Held) (path gone : List ℕ) (t : Turns hs gs path gone) (x : ℕ) (ms : List Member) (f : IsFront S hs x ms) where
  path_kept : (k : ℕ) → has k (ids_of ms) ≡ true → path_of hs k ≡ path_of gs k
  path_kept k h = let at : EndsWith hs x k = f.sound k h in sym (t.same k at.live.there)

  -- what is live and old, and ends with x, is a member
  was_member : (k : ℕ) → k < length hs → EndsWith gs x k → (has k (ids_of ms) ≡ true) × (has k gone ≡ false)
  was_member k old e =
      let was : IsLive hs k × (has k gone ≡ false) = t.was k old e.live in
      (f.complete k (record { live = was.0; ends = ap last_of (sym (t.same k old)) ∙ e.ends }), was.1)

  -- a member that isn't named is live, and ends with x
  still_ends : (k : ℕ) → has k (ids_of ms) ≡ true → has k gone ≡ false → EndsWith gs x k
  still_ends k h fine =
      let at : EndsWith hs x k = f.sound k h in
      record { live = t.stays k at.live fine; ends = ap last_of (t.same k at.live.there) ∙ at.ends }

  -- no label that ends with x died or is new: its antichain stays
  pub IsFront-other : ((k : ℕ) → IsLive hs k → has k gone ≡ true → last_of (path_of hs k) ≢ x) → ((k : ℕ) → length hs ≤ k → IsLive gs k → last_of (path_of gs k) ≢ x)
      → IsFront S gs x ms
  IsFront-other apart never = record {
    sound = λ k h. still_ends k h (elim (cases_Bool (has k gone)) [
      | inl named ↦ absurd (apart k (f.sound k h).live named (f.sound k h).ends)
      | inr fine ↦ fine
    ]);
    complete = λ k e. elim (cases_lt k (length hs)) [
      | inl old ↦ (was_member k old e).0
      | inr past ↦ absurd (never k past e.live e.ends)
    ];
    antichain = IsAntichainOf-same S S (λ k. path_of hs k) (λ k. path_of gs k) ms refl path_kept f.antichain;
  }

  -- members went out: those that are named
  module _ (rest : List Member) (exact : (k : ℕ) → (has k (ids_of rest) ≡ true) ↔ ((has k (ids_of ms) ≡ true) × (has k gone ≡ false))) where
    -- and no label is new and live
    pub IsFront-less : ((k : ℕ) → length hs ≤ k → ¬ IsLive gs k) → IsAntichainOf S (λ k. path_of hs k) rest → IsFront S gs x rest
    IsFront-less never a = record {
      sound = λ k h. let both = (exact k).0 h in still_ends k both.0 both.1;
      complete = λ k e. elim (cases_lt k (length hs)) [
        | inl old ↦ (exact k).1 (was_member k old e)
        | inr past ↦ absurd (never k past e.live)
      ];
      antichain = IsAntichainOf-same S S (λ k. path_of hs k) (λ k. path_of gs k) rest refl (λ k h. path_kept k ((exact k).0 h).0) a;
    }

    -- and the new one came in
    pub IsFront-joined : (m : Member) (more : List Member) → m.id ≡ length hs → length gs ≡ length hs + 1 → EndsWith gs x (length hs)
        → IsInserted m rest more → IsAntichainOf S (λ k. path_of gs k) more → IsFront S gs x more
    IsFront-joined m more is size new in' a = record {
      sound = λ k h. elim (has-inserted m rest more in' k h) [
        | inl last ↦ subst (λ (j : ℕ). EndsWith gs x j) (sym (last ∙ is)) new
        | inr old ↦ let both = (exact k).0 old in still_ends k both.0 both.1
      ];
      complete = λ k e. elim (cases_lt k (length hs)) [
        | inl old ↦ has-inserted_old m rest more in' k ((exact k).1 (was_member k old e))
        | inr past ↦
            let there : k < length gs = e.live.there in
            let last : k ≡ m.id = omega arith in
            subst (λ (j : ℕ). has j (ids_of more) ≡ true) (sym last) (has-inserted_new m rest more in')
      ];
      antichain = a;
    }
