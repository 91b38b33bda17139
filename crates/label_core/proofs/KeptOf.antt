-- Labels that follow those of a bucket, but that some which are cut there live on.
use Rattle.std.proofs.Common.{◌≡◌, ℕ, ◌<◌, ◌⊎◌, true, List, [], ◌∷◌, ◌++◌, length, get_or-set_same, get_or-set_other, length-append, length-set, refl, sym, ◌∙◌, ap, subst, inl, inr, arith, true≢false}
use Rattle.std.proofs.lemmas.Bool.{cases_eq, cases_lt}
use Rattle.std.proofs.lemmas.List.{get_or_append_left}
use Rattle.std.proofs.Math.Seq.{get_or-append_seam}
use Rattle.bucket.specs.Histories.{Step, Inserts, Takes, Retires, Cuts, CanTake, after, after_all}
use Rattle.label_list.specs.Labels.{Held, no_held, held_at, path_of, state_of, is_live, IsLive, with_state}
use Rattle.label_list.specs.declared.state.State.{State}
use Rattle.label_list.specs.declared.state.State.TheVariants.{Waiting, Taken, Retired, Cut}

-- a label is as it is in the bucket, but that it may live on where it is cut there
pub record IsAsIn (there here : Held) : Type 0 where
  pub path : here.path ≡ there.path
  pub state : (here.state ≡ there.state) ⊎ ((there.state ≡ Cut) × (is_live here.state ≡ true))

-- these are the labels of a bucket, each as it is there, or live where it is cut there
pub record IsKeptOf (there here : List Held) : Type 0 where
  pub len : length here ≡ length there
  pub each : (k : ℕ) → k < length there → IsAsIn (held_at there k) (held_at here k)

IsAsIn-from : (a b x y : Held) → a ≡ x → b ≡ y → IsAsIn x y → IsAsIn a b
IsAsIn-from a b x y a_is b_is like =
    subst (λ (h : Held). IsAsIn h b) (sym a_is) (subst (λ (h : Held). IsAsIn x h) (sym b_is) like)

IsAsIn-same : (h : Held) → IsAsIn h h
IsAsIn-same h = record { path = refl; state = inl refl }

pub IsKeptOf-none : IsKeptOf [] []
IsKeptOf-none = record { len = refl; each = λ k below. absurd (omega (arith, below)) }

-- ---- what the labels of the bucket say of these

module _ (there here : List Held) (kept : IsKeptOf there here) where
  pub below_here : (k : ℕ) → k < length there → k < length here
  below_here k below = omega (arith, below, kept.len)

  pub live_here : (k : ℕ) → IsLive there k → is_live (state_of here k) ≡ true
  live_here k live = elim (kept.each k live.there).state [
    | inl same ↦ ap (λ (s : State). is_live s) same ∙ live.live
    | inr lives ↦ lives.1
  ]

  pub waits_here : (k : ℕ) → CanTake there k → state_of here k ≡ Waiting
  waits_here k can = elim (kept.each k can.there).state [
    | inl same ↦ same ∙ can.waits
    | inr lives ↦ absurd (true≢false (ap (λ (s : State). is_live s) (sym can.waits ∙ lives.0)))
  ]

  -- ---- the same change to both

  pub IsKeptOf-push : (h : Held) → IsKeptOf (there ++ h ∷ []) (here ++ h ∷ [])
  IsKeptOf-push h = record {
    len = omega (arith, length-append there (h ∷ []), length-append here (h ∷ []), kept.len);
    each =
        λ k below. elim (cases_lt k (length there)) [
          | inl old ↦
              IsAsIn-from (held_at (there ++ h ∷ []) k) (held_at (here ++ h ∷ []) k) (held_at there k) (held_at here k)
              (get_or_append_left there (h ∷ []) no_held k old) (get_or_append_left here (h ∷ []) no_held k (below_here k old)) (kept.each k old)
          | inr past ↦
              let at : length there ≡ k = omega (arith, past, below, length-append there (h ∷ [])) in
              let at_here : length here ≡ k = kept.len ∙ at in
              IsAsIn-from (held_at (there ++ h ∷ []) k) (held_at (here ++ h ∷ []) k) h h
              (subst (λ (j : ℕ). held_at (there ++ h ∷ []) j ≡ h) at (get_or-append_seam there h [] no_held))
              (subst (λ (j : ℕ). held_at (here ++ h ∷ []) j ≡ h) at_here (get_or-append_seam here h [] no_held)) (IsAsIn-same h)
        ];
  }

  pub IsKeptOf-state : (k : ℕ) (state : State) → k < length there → IsKeptOf (with_state there k state) (with_state here k state)
  IsKeptOf-state k state below =
      let a : Held = record { path = path_of there k; state = state } in
      let b : Held = record { path = path_of here k; state = state } in
      record {
        len = length-set here k b ∙ kept.len ∙ sym (length-set there k a);
        each =
            λ j j_below.
            let j_there : j < length there = omega (arith, j_below, length-set there k a) in
            elim (cases_eq j k) [
              | inl same ↦
                  subst (λ (i : ℕ). IsAsIn (held_at (with_state there k state) i) (held_at (with_state here k state) i)) (sym same)
                  (IsAsIn-from (held_at (with_state there k state) k) (held_at (with_state here k state) k) a b
                  (get_or-set_same there k a no_held below) (get_or-set_same here k b no_held (below_here k below))
                  (record { path = (kept.each k below).path; state = inl refl }))
              | inr other ↦
                  IsAsIn-from (held_at (with_state there k state) j) (held_at (with_state here k state) j) (held_at there j) (held_at here j)
                  (get_or-set_other there k j a no_held other) (get_or-set_other here k j b no_held other) (kept.each j j_there)
            ];
      }

  -- ---- a cut that is left out

  pub IsKeptOf-cut : (k : ℕ) → IsLive there k → IsKeptOf (with_state there k Cut) here
  IsKeptOf-cut k live =
      let a : Held = record { path = path_of there k; state = Cut } in
      record {
        len = kept.len ∙ sym (length-set there k a);
        each =
            λ j j_below.
            let j_there : j < length there = omega (arith, j_below, length-set there k a) in
            elim (cases_eq j k) [
              | inl same ↦
                  subst (λ (i : ℕ). IsAsIn (held_at (with_state there k Cut) i) (held_at here i)) (sym same)
                  (IsAsIn-from (held_at (with_state there k Cut) k) (held_at here k) a (held_at here k)
                  (get_or-set_same there k a no_held live.there) refl
                  (record { path = (kept.each k live.there).path; state = inr (refl, live_here k live) }))
              | inr other ↦
                  IsAsIn-from (held_at (with_state there k Cut) j) (held_at here j) (held_at there j) (held_at here j)
                  (get_or-set_other there k j a no_held other) refl (kept.each j j_there)
            ];
      }

-- ---- labels keep their paths

-- the first labels are there, with the same paths
abbrev pub Begin : List Held → List Held → Type 0
Begin hs all = (k : ℕ) → k < length hs → (k < length all) × (path_of all k ≡ path_of hs k)

pub Begin-same : (hs : List Held) → Begin hs hs
Begin-same hs k below = (below, refl)

pub Begin-trans : (a b c : List Held) → Begin a b → Begin b c → Begin a c
Begin-trans a b c ab bc k below =
    let first = ab k below in
    let second = bc k first.0 in
    (second.0, second.1 ∙ first.1)

Begin-state : (hs : List Held) (k : ℕ) (state : State) → Begin hs (with_state hs k state)
Begin-state hs k state j below =
    let a : Held = record { path = path_of hs k; state = state } in (
      omega (arith, below, length-set hs k a),
      elim (cases_eq j k) [
        | inl same ↦
            let k_below : k < length hs = omega (arith, same, below) in
            subst (λ (i : ℕ). path_of (with_state hs k state) i ≡ path_of hs i) (sym same)
            (ap (λ (h : Held). h.path) (get_or-set_same hs k a no_held k_below))
        | inr other ↦ ap (λ (h : Held). h.path) (get_or-set_other hs k j a no_held other)
      ],
    )

pub Begin-after : (hs : List Held) (entry : Step) → Begin hs (after hs entry)
Begin-after hs (Inserts k path) j below =
    let h : Held = record { path = path; state = Waiting } in
    (omega (arith, below, length-append hs (h ∷ [])), ap (λ (x : Held). x.path) (get_or_append_left hs (h ∷ []) no_held j below))
Begin-after hs (Takes k) j below = Begin-state hs k Taken j below
Begin-after hs (Retires k by) j below = Begin-state hs k (Retired by) j below
Begin-after hs (Cuts k) j below = Begin-state hs k Cut j below

pub Begin-after_all : (hs : List Held) (entries : List Step) → Begin hs (after_all hs entries)
Begin-after_all hs [] = Begin-same hs
Begin-after_all hs (entry ∷ entries) =
    Begin-trans hs (after hs entry) (after_all (after hs entry) entries) (Begin-after hs entry) (Begin-after_all (after hs entry) entries)
