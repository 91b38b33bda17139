-- Machines with the same labels, of which some may live no more.
use Rattle.std.proofs.Common.{◌≡◌, ◌≢◌, ℕ, true, false, List, refl, sym, ◌∙◌, ap, subst, inl, inr, arith, true≢false}
use Rattle.label_list.specs.Labels.{Held, is_live, last_of}
use Rattle.bucket.specs.declared.id.Id.{Id}
use Rattle.label_list.specs.declared.state.State.{State}
use Rattle.label_list.specs.declared.state.State.TheVariants.{Taken, Retired, Cut}
use Rattle.admission.specs.Antichains.{Fades, EndsWith, Shrinks}
use Rattle.label_core.proofs.Lookups.{held_at-same, held_here, held_there}
use Rattle.label_core.proofs.SameIds.{cases_id}
use Rattle.label_core.proofs.Steps.{IsAlike, IsAlike-same, IsAlike-with_state, IsAlike-trans, buckets-with_note, buckets-with_incumbent}
use Rattle.label_core.specs.CoreState.{CoreState, buckets_of, state_of, IsThere, IsLiveAt, with_state, with_note}
use Rattle.label_core.specs.Events.{TakeLabel, RetireLabel, CutLabel, Publish}
use Rattle.label_core.specs.Machine.{Machine, Can, stepped}
use Rattle.label_core.specs.declared.note.Note.{Note}
use Rattle.label_core.specs.declared.note.Note.TheVariants.{Retires, Cuts}
use Rattle.strip_model.specs.declared.acquisition.Acquisition.{Acquisition}
use Rattle.strip_model.specs.declared.end.End.{End}

-- ---- what fades

pub Fades-refl : (m : Machine) → Fades m m
Fades-refl m = record { instance = refl; cut = refl; len = λ e b. refl; path = λ id. refl; live = λ id live. live }

pub Fades-trans : (m t u : Machine) → Fades m t → Fades t u → Fades m u
Fades-trans m t u h k = record {
  instance = k.instance ∙ h.instance;
  cut = k.cut ∙ h.cut;
  len = λ e b. k.len e b ∙ h.len e b;
  path = λ id. k.path id ∙ h.path id;
  live = λ id live. h.live id (k.live id live);
}

-- a label that is there was there, and the other way round
pub there_before : (m t : Machine) → Fades m t → (id : Id) → IsThere t.state id → IsThere m.state id
there_before m t h id there = omega (arith, there, h.len id.end id.bucket)

pub there_still : (m t : Machine) → Fades m t → (id : Id) → IsThere m.state id → IsThere t.state id
there_still m t h id there = omega (arith, there, h.len id.end id.bucket)

Fades-alike : (m t : Machine) → t.instance ≡ m.instance → t.cut ≡ m.cut → IsAlike m.state t.state
    → ((id : Id) → IsThere m.state id → is_live (state_of t.state id) ≡ true → is_live (state_of m.state id) ≡ true) → Fades m t
Fades-alike m t instance cut alike live = record {
  instance = instance;
  cut = cut;
  len = alike.len;
  path = alike.path;
  live =
      λ id now.
      let there : IsThere m.state id = omega (arith, now.there, alike.len id.end id.bucket) in
      record { there = there; live = live id there now.live };
}

-- ---- what shrinks

pub Shrinks-refl : (m : Machine) (e : End) (x : ℕ) → Shrinks m m e x
Shrinks-refl m e x = record { fades = Fades-refl m; others = λ id live other. live }

EndsWith-before : (m t : Machine) → Fades m t → (e : End) (x : ℕ) (id : Id) → EndsWith t.state e x id → EndsWith m.state e x id
EndsWith-before m t h e x id ends = record { side = ends.side; last = sym (ap (λ (p : List ℕ). last_of p) (h.path id)) ∙ ends.last }

pub Shrinks-trans : (m t u : Machine) (e : End) (x : ℕ) → Shrinks m t e x → Shrinks t u e x → Shrinks m u e x
Shrinks-trans m t u e x h k = record {
  fades = Fades-trans m t u h.fades k.fades;
  others = λ id live other. k.others id (h.others id live other) (λ ends. other (EndsWith-before m t h.fades e x id ends));
}

-- ---- steps after which the same labels live

-- the same labels, and each lives that lived
pub record Keeps (m t : Machine) : Type 0 where
  pub fades : Fades m t
  pub alive : (id : Id) → IsLiveAt m.state id → IsLiveAt t.state id

pub Shrinks-keeps : (m t : Machine) (e : End) (x : ℕ) → Keeps m t → Shrinks m t e x
Shrinks-keeps m t e x h = record { fades = h.fades; others = λ id live other. h.alive id live }

-- another incumbent
Keeps-incumbent : (m : Machine) (plan : List Acquisition) → Keeps m (record m { state = record m.state { incumbent = plan } })
Keeps-incumbent m plan =
    let t : CoreState = record m.state { incumbent = plan } in
    let same : (e : End) → buckets_of t e ≡ buckets_of m.state e = buckets-with_incumbent m.state plan in
    let alike : IsAlike m.state t = IsAlike-same m.state t same in
    let live : (id : Id) → is_live (state_of t id) ≡ is_live (state_of m.state id) =
    λ id. ap (λ (h : Held). is_live h.state) (held_at-same m.state t same id) in
    record {
      fades = Fades-alike m (record m { state = t }) refl refl alike (λ id there now. sym (live id) ∙ now);
      alive =
          λ id now. record { there = omega (arith, now.there, alike.len id.end id.bucket); live = live id ∙ now.live };
    }

pub Keeps-publish : (m t : Machine) (plan : List Acquisition) → t ≡ stepped m (Publish plan) → Keeps m t
Keeps-publish m t plan is = subst (λ (u : Machine). Keeps m u) (sym is) (Keeps-incumbent m plan)

-- a label is taken
Keeps-taken : (m : Machine) (id : Id) → IsLiveAt m.state id → Keeps m (record m { state = with_state m.state id Taken })
Keeps-taken m id was =
    let t : CoreState = with_state m.state id Taken in
    let alike : IsAlike m.state t = IsAlike-with_state m.state id Taken was.there in
    let live : (x : Id) → is_live (state_of t x) ≡ is_live (state_of m.state x) =
    λ x. elim (cases_id x id) [
      | inl same ↦
          let here : is_live (state_of t id) ≡ is_live (state_of m.state id) =
          ap (λ (h : Held). is_live h.state) (held_here m.state id Taken was.there) ∙ sym was.live in
          subst (λ (y : Id). is_live (state_of t y) ≡ is_live (state_of m.state y)) (sym same) here
      | inr other ↦ ap (λ (h : Held). is_live h.state) (held_there m.state id Taken was.there x other)
    ] in
    record {
      fades = Fades-alike m (record m { state = t }) refl refl alike (λ x there now. sym (live x) ∙ now);
      alive = λ x now. record { there = omega (arith, now.there, alike.len x.end x.bucket); live = live x ∙ now.live };
    }

pub Keeps-take : (m t : Machine) (id : Id) → Can m (TakeLabel id) → t ≡ stepped m (TakeLabel id) → Keeps m t
Keeps-take m t id can is =
    subst (λ (u : Machine). Keeps m u) (sym is)
    (Keeps-taken m id (record { there = can.there; live = ap (λ (s : State). is_live s) can.waits }))

-- ---- steps after which one label lives no more

-- the same labels, of which one that lived lives no more
pub record Dies (m t : Machine) (id : Id) : Type 0 where
  pub fades : Fades m t
  pub lived : IsLiveAt m.state id
  pub dead : ¬ IsLiveAt t.state id
  pub others : (x : Id) → x ≢ id → IsLiveAt m.state x → IsLiveAt t.state x

Dies-marked : (m : Machine) (id : Id) (state : State) (note : Note) → IsLiveAt m.state id → is_live state ≡ false
    → Dies m (record m { state = with_note (with_state m.state id state) note }) id
Dies-marked m id state note was dead =
    let mid : CoreState = with_state m.state id state in
    let t : CoreState = with_note mid note in
    let same : (e : End) → buckets_of t e ≡ buckets_of mid e = buckets-with_note mid note in
    let alike : IsAlike m.state t = IsAlike-trans m.state mid t (IsAlike-with_state m.state id state was.there) (IsAlike-same mid t same) in
    let here : is_live (state_of t id) ≡ false =
    ap (λ (h : Held). is_live h.state) (held_at-same mid t same id ∙ held_here m.state id state was.there) ∙ dead in
    let there_live : (x : Id) → x ≢ id → is_live (state_of t x) ≡ is_live (state_of m.state x) =
    λ x other. ap (λ (h : Held). is_live h.state) (held_at-same mid t same x ∙ held_there m.state id state was.there x other) in
    record {
      fades =
          Fades-alike m (record m { state = t }) refl refl alike
          (λ x there now. elim (cases_id x id) [
            | inl at ↦ absurd (true≢false (sym (subst (λ (y : Id). is_live (state_of t y) ≡ true) at now) ∙ here))
            | inr other ↦ sym (there_live x other) ∙ now
          ]);
      lived = was;
      dead = λ now. absurd (true≢false (sym now.live ∙ here));
      others =
          λ x other now. record { there = omega (arith, now.there, alike.len x.end x.bucket); live = there_live x other ∙ now.live };
    }

pub Dies-retire : (m t : Machine) (id by : Id) → Can m (RetireLabel id by) → t ≡ stepped m (RetireLabel id by) → Dies m t id
Dies-retire m t id by can is =
    subst (λ (u : Machine). Dies m u id) (sym is) (Dies-marked m id (Retired by.index) (Retires id by) can.live refl)

pub Dies-cut : (m t : Machine) (id : Id) → Can m (CutLabel id) → t ≡ stepped m (CutLabel id) → Dies m t id
Dies-cut m t id can is = subst (λ (u : Machine). Dies m u id) (sym is) (Dies-marked m id Cut (Cuts id) can.live refl)

pub Shrinks-dies : (m t : Machine) (e : End) (x : ℕ) (id : Id) → Dies m t id → EndsWith m.state e x id → Shrinks m t e x
Shrinks-dies m t e x id h ends = record {
  fades = h.fades;
  others = λ y live other. h.others y (λ same. other (subst (λ (z : Id). EndsWith m.state e x z) (sym same) ends)) live;
}

-- and a label that was cut is so
pub state_cut : (m t : Machine) (id : Id) → IsLiveAt m.state id → t ≡ stepped m (CutLabel id) → state_of t.state id ≡ Cut
state_cut m t id was is =
    subst (λ (u : Machine). state_of u.state id ≡ Cut) (sym is)
    (let mid : CoreState = with_state m.state id Cut in
    ap (λ (h : Held). h.state)
    (held_at-same mid (with_note mid (Cuts id)) (buckets-with_note mid (Cuts id)) id ∙ held_here m.state id Cut was.there))
