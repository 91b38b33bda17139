-- Labels of which one or more have another state now.
use Rattle.std.proofs.Common.{◌≡◌, ◌≢◌, ℕ, ◌<◌, inl, inr, false, List, [], ◌∷◌, length, get_or, refl, sym, ap, ◌∙◌, subst, arith}
use Rattle.std.proofs.Math.ListN.{get_or-map}
use Rattle.std.proofs.Math.Seq.{map-set_same}
use Rattle.std.proofs.lemmas.Bool.{cases_eq, false≢true, true≢false}
use Rattle.std.proofs.lemmas.List.{get_or-set_other, get_or-set_same, length-set}
use Rattle.bucket.specs.Buckets.{retirements}
use Rattle.bucket.specs.Histories.{after_all, CanTake}
use Rattle.label_list.specs.Labels.{Held, IsLive, is_live, no_held, path_of, state_of, with_state}
use Rattle.label_list.specs.declared.state.State.{State}
use Rattle.label_list.specs.declared.state.State.TheVariants.{Taken, Retired}
use Rattle.strip_model.proofs.Words.{has_head}
use Rattle.strip_model.specs.Directed.{has}
use Rattle.strip_set.proofs.Members.{has-tail}

-- no path changes
pub path_of-with_state : (hs : List Held) (k j : ℕ) (s : State) → path_of (with_state hs k s) j ≡ path_of hs j
path_of-with_state hs k j s =
    sym (get_or-map (λ (h : Held). h.path) (with_state hs k s) j no_held)
    ∙ ap (λ ps. get_or ps j []) (map-set_same (λ (h : Held). h.path) hs k (record { path = path_of hs k; state = s }) no_held refl)
    ∙ get_or-map (λ (h : Held). h.path) hs j no_held

-- the state of that label, and of another
pub state_of-with_state : (hs : List Held) (k : ℕ) (s : State) → k < length hs → state_of (with_state hs k s) k ≡ s
state_of-with_state hs k s there = ap (λ (h : Held). h.state) (get_or-set_same hs k (record { path = path_of hs k; state = s }) no_held there)

pub state_of-other : (hs : List Held) (k j : ℕ) (s : State) → j ≢ k → state_of (with_state hs k s) j ≡ state_of hs j
state_of-other hs k j s differ = ap (λ (h : Held). h.state) (get_or-set_other hs k j (record { path = path_of hs k; state = s }) no_held differ)

-- another label stays live
pub IsLive-other : (hs : List Held) (k j : ℕ) (s : State) → j ≢ k → IsLive hs j → IsLive (with_state hs k s) j
IsLive-other hs k j s differ h = record {
  there = rw (length-set hs k (record { path = path_of hs k; state = s })) h.there;
  live = ap is_live (state_of-other hs k j s differ) ∙ h.live;
}

-- what is live where one label died was live before, and is another
pub IsLive-with_dead : (hs : List Held) (k j : ℕ) (s : State) → is_live s ≡ false → IsLive (with_state hs k s) j → IsLive hs j × (j ≢ k)
IsLive-with_dead hs k j s dead h =
    let there : j < length hs = rw (length-set hs k (record { path = path_of hs k; state = s })) at h.there in
    let differ : j ≢ k = λ same.
    (let is : state_of (with_state hs k s) j ≡ s = subst (λ (i : ℕ). state_of (with_state hs k s) i ≡ s) (sym same) (state_of-with_state hs k s (omega arith)) in
    absurd (false≢true (sym dead ∙ sym (ap is_live is) ∙ h.live))) in
    (record { there = there; live = sym (ap is_live (state_of-other hs k j s differ)) ∙ h.live }, differ)

-- what is live where one label was taken was live before
pub IsLive-taken : (hs : List Held) (k j : ℕ) → CanTake hs k → IsLive (with_state hs k Taken) j → IsLive hs j
IsLive-taken hs k j can h =
    let there : j < length hs = rw (length-set hs k (record { path = path_of hs k; state = Taken })) at h.there in
    elim (cases_eq j k) [
      | inl same ↦ subst (λ (i : ℕ). IsLive hs i) (sym same) (record { there = can.there; live = ap is_live can.waits })
      | inr differ ↦ record { there = there; live = sym (ap is_live (state_of-other hs k j Taken differ)) ∙ h.live }
    ]

-- ---- retirements one after another

pub length-retired : (hs : List Held) (by : ℕ) (ids : List ℕ) → length (after_all hs (retirements by ids)) ≡ length hs
length-retired hs by [] = refl
length-retired hs by (x ∷ ids) =
    length-retired (with_state hs x (Retired by)) by ids ∙ length-set hs x (record { path = path_of hs x; state = Retired by })

pub path_of-retired : (hs : List Held) (by : ℕ) (ids : List ℕ) (k : ℕ) → path_of (after_all hs (retirements by ids)) k ≡ path_of hs k
path_of-retired hs by [] k = refl
path_of-retired hs by (x ∷ ids) k =
    path_of-retired (with_state hs x (Retired by)) by ids k ∙ path_of-with_state hs x k (Retired by)

-- what isn't named stays live
pub IsLive-retired : (hs : List Held) (by : ℕ) (ids : List ℕ) (k : ℕ) → has k ids ≡ false → IsLive hs k → IsLive (after_all hs (retirements by ids)) k
IsLive-retired hs by [] k other h = h
IsLive-retired hs by (x ∷ ids) k other h =
    elim (cases_eq k x) [
      | inl same ↦ absurd (true≢false (sym (has_head k ids) ∙ ap (λ i. has k (i ∷ ids)) same ∙ other))
      | inr differ ↦
          IsLive-retired (with_state hs x (Retired by)) by ids k
          (sym (has-tail k x ids (λ e. differ (sym e))) ∙ other)
          (IsLive-other hs x k (Retired by) differ h)
    ]

-- what is live afterwards was live before, and isn't named
pub IsLive-before : (hs : List Held) (by : ℕ) (ids : List ℕ) (k : ℕ) → IsLive (after_all hs (retirements by ids)) k → IsLive hs k × (has k ids ≡ false)
IsLive-before hs by [] k h = (h, refl)
IsLive-before hs by (x ∷ ids) k h =
    let rest : IsLive (with_state hs x (Retired by)) k × (has k ids ≡ false) = IsLive-before (with_state hs x (Retired by)) by ids k h in
    let first : IsLive hs k × (k ≢ x) = IsLive-with_dead hs x k (Retired by) refl rest.0 in
    (first.0, has-tail k x ids (λ e. first.1 (sym e)) ∙ rest.1)
