-- Labels of which one has another state now, and labels with one more.
use Rattle.std.proofs.Common.{◌≡◌, ◌≢◌, get_or, ℕ, ◌+◌, ◌<◌, ◌⊎◌, inl, inr, false, List, [], ◌∷◌, ◌++◌, length, refl, sym, ap, ◌∙◌, subst, arith, length-append}
use Rattle.std.proofs.Math.ListN.{get_or-map}
use Rattle.std.proofs.Math.Seq.{get_or-append_seam, map-set_same}
use Rattle.std.proofs.lemmas.Bool.{cases_lt, cases_eq, false≢true}
use Rattle.std.proofs.lemmas.List.{get_or-set_other, get_or-set_same, get_or_append_left, length-set}
use Rattle.label_list.specs.Labels.{Held, IsLive, is_live, no_held, held_at, path_of, state_of, with_state, IsAbsent}
use Rattle.label_list.specs.declared.state.State.{State}
use Rattle.label_list.specs.declared.state.State.TheVariants.{Waiting, Taken}

-- no path changes, and there are as many labels
pub path_of-with_state : (hs : List Held) (k j : ℕ) (s : State) → path_of (with_state hs k s) j ≡ path_of hs j
path_of-with_state hs k j s =
    sym (get_or-map (λ (h : Held). h.path) (with_state hs k s) j no_held)
    ∙ ap (λ ps. get_or ps j []) (map-set_same (λ (h : Held). h.path) hs k (record { path = path_of hs k; state = s }) no_held refl)
    ∙ get_or-map (λ (h : Held). h.path) hs j no_held

pub length-with_state : (hs : List Held) (k : ℕ) (s : State) → length (with_state hs k s) ≡ length hs
length-with_state hs k s = length-set hs k (record { path = path_of hs k; state = s })

-- the state of that label, and of another
pub state_of-with_state : (hs : List Held) (k : ℕ) (s : State) → k < length hs → state_of (with_state hs k s) k ≡ s
state_of-with_state hs k s there = ap (λ (h : Held). h.state) (get_or-set_same hs k (record { path = path_of hs k; state = s }) no_held there)

pub held_at-other : (hs : List Held) (k j : ℕ) (s : State) → j ≢ k → held_at (with_state hs k s) j ≡ held_at hs j
held_at-other hs k j s differ = get_or-set_other hs k j (record { path = path_of hs k; state = s }) no_held differ

pub state_of-other : (hs : List Held) (k j : ℕ) (s : State) → j ≢ k → state_of (with_state hs k s) j ≡ state_of hs j
state_of-other hs k j s differ = ap (λ (h : Held). h.state) (held_at-other hs k j s differ)

-- the same paths are absent
pub IsAbsent-with_state : (hs : List Held) (k : ℕ) (s : State) (path : List ℕ) → IsAbsent hs path → IsAbsent (with_state hs k s) path
IsAbsent-with_state hs k s path absent = λ j there same.
    absent j (rw (length-with_state hs k s) at there) (sym (path_of-with_state hs k j s) ∙ same)

-- another label stays live
pub IsLive-other : (hs : List Held) (k j : ℕ) (s : State) → j ≢ k → IsLive hs j → IsLive (with_state hs k s) j
IsLive-other hs k j s differ h = record {
  there = rw (length-with_state hs k s) h.there;
  live = ap is_live (state_of-other hs k j s differ) ∙ h.live;
}

-- what is live where one label died was live before, and is another
pub IsLive-with_dead : (hs : List Held) (k j : ℕ) (s : State) → is_live s ≡ false → IsLive (with_state hs k s) j → IsLive hs j × (j ≢ k)
IsLive-with_dead hs k j s dead h =
    let there : j < length hs = rw (length-with_state hs k s) at h.there in
    let differ : j ≢ k = λ same.
    (let is : state_of (with_state hs k s) j ≡ s = subst (λ (i : ℕ). state_of (with_state hs k s) i ≡ s) (sym same) (state_of-with_state hs k s (omega arith)) in
    absurd (false≢true (sym dead ∙ sym (ap is_live is) ∙ h.live))) in
    (record { there = there; live = sym (ap is_live (state_of-other hs k j s differ)) ∙ h.live }, differ)

-- what is live where one label that waited was taken was live before
pub IsLive-taken : (hs : List Held) (k j : ℕ) → k < length hs → state_of hs k ≡ Waiting → IsLive (with_state hs k Taken) j → IsLive hs j
IsLive-taken hs k j is_there waits h =
    let there : j < length hs = rw (length-with_state hs k Taken) at h.there in
    elim (cases_eq j k) [
      | inl same ↦ subst (λ (i : ℕ). IsLive hs i) (sym same) (record { there = is_there; live = ap is_live waits })
      | inr differ ↦ record { there = there; live = sym (ap is_live (state_of-other hs k j Taken differ)) ∙ h.live }
    ]

-- ---- one label more

pub length-push : (hs : List Held) (h : Held) → length (hs ++ h ∷ []) ≡ length hs + 1
length-push hs h = length-append hs (h ∷ [])

-- the labels before it stay
pub held_at-old : (hs : List Held) (h : Held) (k : ℕ) → k < length hs → held_at (hs ++ h ∷ []) k ≡ held_at hs k
held_at-old hs h k there = get_or_append_left hs (h ∷ []) no_held k there

pub held_at-new : (hs : List Held) (h : Held) → held_at (hs ++ h ∷ []) (length hs) ≡ h
held_at-new hs h = get_or-append_seam hs h [] no_held

-- what is live was live before, or is new
pub IsLive-old : (hs : List Held) (h : Held) (k : ℕ) → IsLive hs k → IsLive (hs ++ h ∷ []) k
IsLive-old hs h k live = record {
  there = let there : k < length hs = live.there in omega (arith, length-push hs h);
  live = ap (λ (x : Held). is_live x.state) (held_at-old hs h k live.there) ∙ live.live;
}

pub IsLive-push : (hs : List Held) (h : Held) (k : ℕ) → IsLive (hs ++ h ∷ []) k → IsLive hs k ⊎ (k ≡ length hs)
IsLive-push hs h k live = elim (cases_lt k (length hs)) [
  | inl old ↦ inl (record { there = old; live = sym (ap (λ (x : Held). is_live x.state) (held_at-old hs h k old)) ∙ live.live })
  | inr past ↦ inr (let there : k < length (hs ++ h ∷ []) = live.there in omega (arith, length-push hs h))
]
