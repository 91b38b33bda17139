-- Labels are marked one after another, and what is left of their antichain.
use Rattle.std.proofs.Common.{◌≡◌, ◌≢◌, ℕ, zero, suc, ◌+◌, ◌<◌, ◌==◌, true, List, [], ◌∷◌, length, get_or, refl, sym, ◌∙◌, ap, subst, inl, inr, arith, true≢false}
use Rattle.std.proofs.lemmas.Bool.{cases_lt, eq-eqb}
use Rattle.std.proofs.lemmas.Map.Keys.{apart_from_distinct}
use Rattle.std.specs.List.{IsDistinct}
use Rattle.admission.proofs.AntichainMembers.{IsAntichainAt-over, Belongs-before, beside_is}
use Rattle.admission.proofs.CarefulSteps.{GoesQuietly-refl, GoesQuietly-trans, GoesQuietly-retire, GoesQuietly-cut, IsOrderly-reached}
use Rattle.admission.proofs.Fading.{Dies, Dies-retire, Dies-cut, Shrinks-refl, Shrinks-trans, Shrinks-dies}
use Rattle.admission.specs.Antichains.{id_at, Belongs, IsAntichainAt}
use Rattle.admission.specs.CarefulRuns.{GoesQuietly}
use Rattle.admission.specs.Clearing.{AreRetirable, AreCuttable, Clears}
use Rattle.admission.specs.Contests.{last_at, beside}
use Rattle.antichain.proofs.Changes.{IsAntichainOf-parted}
use Rattle.antichain.proofs.Parts.{has-kept, has-parts}
use Rattle.antichain.specs.Antichains.{ids_of, Parted}
use Rattle.antichain.specs.declared.member.Member.{Member}
use Rattle.bucket.specs.declared.id.Id.{Id}
use Rattle.label_core.specs.CoreState.{path_of, IsLiveAt}
use Rattle.label_core.specs.Events.{RetireLabel, CutLabel, CanRetire, CanCut}
use Rattle.label_core.specs.Machine.{Machine, Can, stepped}
use Rattle.label_list.specs.Labels.{last_of}
use Rattle.strip_model.proofs.Words.{has_head, has_tail, has_cons_cases}
use Rattle.strip_model.specs.Directed.{has}
use Rattle.strip_model.specs.Dominance.{Dominates}
use Rattle.strip_model.specs.Orbit.{Orbit}
use Rattle.strip_model.specs.Plan.{gain_of}
use Rattle.strip_model.specs.Reach.{bound}
use Rattle.strip_model.specs.Side.{facing, face_of}
use Rattle.strip_model.specs.declared.acquisition.Acquisition.{Acquisition}
use Rattle.strip_model.specs.declared.end.End.{End}

-- ---- numbers of a list by their places

-- the number at a place stands in the list
pub has-at : (xs : List ℕ) (i : ℕ) → i < length xs → has (get_or xs i 0) xs ≡ true
has-at [] i small = absurd (omega (arith, small))
has-at (x ∷ xs) zero small = has_head x xs
has-at (x ∷ xs) (suc i) small = has_tail (get_or xs i 0) x xs (has-at xs i (omega (arith, small)))

-- and one that stands there has a place
pub place_of : (xs : List ℕ) (k : ℕ) → has k xs ≡ true → (i : ℕ) × (i < length xs) × (get_or xs i 0 ≡ k)
place_of [] k h = absurd (true≢false (sym h))
place_of (x ∷ xs) k h = elim (has_cons_cases k x xs h) [
  | inl same ↦ (0, omega arith, sym same)
  | inr later ↦ let found = place_of xs k later in (suc found.0, omega (arith, found.1), found.2)
]

-- those at two places differ
differ_at : (xs : List ℕ) (i j : ℕ) → IsDistinct (λ j k. j == k) xs → i < j → j < length xs → get_or xs j 0 ≢ get_or xs i 0
differ_at xs i j distinct l there same =
    true≢false (sym (eq-eqb (get_or xs i 0) (get_or xs j 0) (sym same)) ∙ apart_from_distinct (λ (j k : ℕ). j == k) xs i j 0 distinct l there)

-- ---- one label after another

pub Clears-none : (m : Machine) (e : End) (x : ℕ) (ids : List ℕ) → Clears m m e x ids 0
Clears-none m e x ids = record {
  quiet = GoesQuietly-refl m;
  shrinks = Shrinks-refl m e x;
  plan = refl;
  others = λ y live other. live;
  dead = λ j l live. absurd (omega (arith, l));
}

-- the next dies
Clears-dies : (m t u : Machine) (e : End) (x : ℕ) (ids : List ℕ) (n : ℕ) → GoesQuietly t u → Dies t u (id_at e x (get_or ids n 0))
    → u.state.incumbent ≡ t.state.incumbent → Belongs m.state e x (get_or ids n 0) → Clears m t e x ids n → Clears m u e x ids (n + 1)
Clears-dies m t u e x ids n quiet dies plan belongs h = record {
  quiet = GoesQuietly-trans m t u h.quiet quiet;
  shrinks =
      Shrinks-trans m t u e x h.shrinks
      (Shrinks-dies t u e x (id_at e x (get_or ids n 0)) dies
      (record { side = refl; last = ap (λ (p : List ℕ). last_of p) (h.shrinks.fades.path (id_at e x (get_or ids n 0))) ∙ belongs.ends }));
  plan = plan ∙ h.plan;
  others =
      λ y live other.
      dies.others y (other n (omega arith)) (h.others y live (λ j l. other j (omega (arith, l))));
  dead =
      λ j l live. elim (cases_lt j n) [
        | inl below ↦ h.dead j below (dies.fades.live (id_at e x (get_or ids j 0)) live)
        | inr past ↦
            dies.dead (subst (λ (i : ℕ). IsLiveAt u.state (id_at e x (get_or ids i 0))) (omega (arith, l, past)) live)
      ];
}

-- one that is still to come lives
still_lives : (m t : Machine) (e : End) (x : ℕ) (ids : List ℕ) (n : ℕ) → IsDistinct (λ j k. j == k) ids → n < length ids
    → IsLiveAt m.state (id_at e x (get_or ids n 0)) → Clears m t e x ids n → IsLiveAt t.state (id_at e x (get_or ids n 0))
still_lives m t e x ids n distinct there live h =
    h.others (id_at e x (get_or ids n 0)) live (λ j l same. differ_at ids j n distinct l there (ap (λ (y : Id). y.index) same))

-- ---- retirements

module _ (m t : Machine) (by : Id) (ids : List ℕ) (n : ℕ) (can : AreRetirable m by ids) (there : n < length ids)
    (h : Clears m t by.end (last_at m by) ids n) where
  here : has (get_or ids n 0) ids ≡ true
  here = has-at ids n there

  pub CanRetire-next : Can t (RetireLabel (beside m by (get_or ids n 0)) by)
  unfolding here
  CanRetire-next = record {
    live = still_lives m t by.end (last_at m by) ids n can.distinct there (can.belong (get_or ids n 0) here).live h;
    by_live =
        h.others by can.lives
        (λ j l same. omega (arith, can.below (get_or ids j 0) (has-at ids j (omega (arith, l, there))), ap (λ (y : Id). y.index) same));
    one_side = refl;
    differ = λ same. omega (arith, can.below (get_or ids n 0) here, ap (λ (y : Id). y.index) same);
    dominated =
        subst (λ (I : Orbit). Dominates (facing I by.end) (path_of t.state by) (path_of t.state (beside m by (get_or ids n 0)))) (sym h.shrinks.fades.instance)
        (subst (λ (p : List ℕ). Dominates (facing m.instance by.end) p (path_of t.state (beside m by (get_or ids n 0)))) (sym (h.shrinks.fades.path by))
        (subst (λ (p : List ℕ). Dominates (facing m.instance by.end) (path_of m.state by) p) (sym (h.shrinks.fades.path (beside m by (get_or ids n 0))))
        (can.beaten (get_or ids n 0) here)));
  }

  -- as the code names it
  named : record { end = by.end; bucket = by.bucket; index = get_or ids n 0 } ≡ beside m by (get_or ids n 0)
  named = beside_is m by (get_or ids n 0) (IsOrderly-reached m can.reached) can.lives.there

  pub CanRetire-named : CanRetire t.instance t.state (record { end = by.end; bucket = by.bucket; index = get_or ids n 0 }) by
  unfolding named
  CanRetire-named = subst (λ (y : Id). CanRetire t.instance t.state y by) (sym named) CanRetire-next

  pub Clears-retired : (u : Machine) → u ≡ stepped t (RetireLabel (record { end = by.end; bucket = by.bucket; index = get_or ids n 0 }) by)
      → Clears m u by.end (last_at m by) ids (n + 1)
  unfolding here named
  Clears-retired u step =
      let is : u ≡ stepped t (RetireLabel (beside m by (get_or ids n 0)) by) = step ∙ ap (λ (y : Id). stepped t (RetireLabel y by)) named in
      Clears-dies m t u by.end (last_at m by) ids n (GoesQuietly-retire t u (beside m by (get_or ids n 0)) by CanRetire-next is)
      (Dies-retire t u (beside m by (get_or ids n 0)) by CanRetire-next is) (ap (λ (v : Machine). v.state.incumbent) is)
      (can.belong (get_or ids n 0) here) h

-- ---- cuts

module _ (m t : Machine) (e : End) (x : ℕ) (ids : List ℕ) (n : ℕ) (can : AreCuttable m e x ids) (there : n < length ids) (h : Clears m t e x ids n) where
  at : has (get_or ids n 0) ids ≡ true
  at = has-at ids n there

  pub CanCut-next : CanCut t.instance t.state (id_at e x (get_or ids n 0))
  unfolding at
  CanCut-next = record {
    live = still_lives m t e x ids n can.distinct there (can.belong (get_or ids n 0) at).live h;
    bounded =
        omega (
          arith,
          can.bounded (get_or ids n 0) at,
          ap (λ (p : List ℕ). bound (facing t.instance e) p) (h.shrinks.fades.path (id_at e x (get_or ids n 0))),
          ap (λ (I : Orbit). bound (facing I e) (path_of m.state (id_at e x (get_or ids n 0)))) h.shrinks.fades.instance,
          ap (λ (p : List Acquisition). gain_of t.instance p) h.plan,
          ap (λ (I : Orbit). gain_of I m.state.incumbent) h.shrinks.fades.instance,
        );
  }

  pub Clears-cut : (u : Machine) → u ≡ stepped t (CutLabel (id_at e x (get_or ids n 0))) → Clears m u e x ids (n + 1)
  unfolding at
  Clears-cut u is =
      Clears-dies m t u e x ids n (GoesQuietly-cut t u (id_at e x (get_or ids n 0)) CanCut-next is)
      (Dies-cut t u (id_at e x (get_or ids n 0)) CanCut-next is) (ap (λ (v : Machine). v.state.incumbent) is)
      (can.belong (get_or ids n 0) at) h

-- ---- what is left

-- Of an antichain some members are gone, whose labels have died: the others are the antichain then.
pub IsAntichainAt-left : (P Q : Member → Type 0) (m t : Machine) (e : End) (x n : ℕ) (ms gs rest : List Member) → Parted P Q ms gs rest
    → ((k : ℕ) → has k (ids_of gs) ≡ true → has k (ids_of rest) ≡ true → ⊥) → Clears m t e x (ids_of gs) (length (ids_of gs)) → IsAntichainAt m e x n ms
    → IsAntichainAt t e x n rest
IsAntichainAt-left P Q m t e x n ms gs rest parted exclusive clears h =
    IsAntichainAt-over m t e x n rest clears.shrinks.fades.instance clears.shrinks.fades.cut
    (IsAntichainOf-parted P Q (face_of m.instance m.cut e) (λ k. path_of m.state (id_at e x k)) parted h.antichain)
    (λ k i. h.below k (has-kept P Q k parted i)) (λ k i. h.sound k (has-kept P Q k parted i)) (λ k i. clears.shrinks.fades.path (id_at e x k))
    (λ k i.
    clears.others (id_at e x k) (h.sound k (has-kept P Q k parted i)).live
    (λ j l same.
    exclusive k (subst (λ (y : ℕ). has y (ids_of gs) ≡ true) (sym (ap (λ (y : Id). y.index) same)) (has-at (ids_of gs) j l)) i))
    (λ k l b. elim (has-parts P Q k parted (h.complete k l (Belongs-before m t e x k clears.shrinks.fades b))) [
      | inl out ↦
          let at : (i : ℕ) × (i < length (ids_of gs)) × (get_or (ids_of gs) i 0 ≡ k) = place_of (ids_of gs) k out in
          absurd (clears.dead at.0 at.1 (subst (λ (y : ℕ). IsLiveAt t.state (id_at e x y)) (sym at.2) b.live))
      | inr stays ↦ stays
    ])
