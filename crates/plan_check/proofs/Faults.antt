-- A plan is feasible exactly where it has no fault, and which fault comes first.
use Rattle.std.proofs.Common.{◌≡◌, ℕ, zero, suc, ◌+◌, ◌-◌, ◌<◌, ◌≤◌, ◌==◌, ◌↔◌, true, false, Option, Some, None, List, [], ◌∷◌, ◌++◌, length, take, refl, sym, ◌∙◌, ap, subst, inl, inr, arith, true≢false}
use Rattle.std.proofs.lemmas.Bool.{cases_lt, cases_Bool, or_left, eq-eqb, both_ways, false_from_ne_true}
use Rattle.std.proofs.lemmas.List.{take_all, length-map, length-take-le}
use Rattle.std.proofs.lemmas.List.Elements.{All-from_recursion}
use Rattle.std.specs.List.{AllByRecursion}
use Rattle.std.specs.Option.{option_map_or}
use Rattle.plan_check.proofs.Places.{order_of-take_more, order_of-around, has-place, place-has, all_from_places, manoeuvres_from_places, place_from_manoeuvres}
use Rattle.plan_check.specs.Fault.{no_acquisition, acquisition_at, place_of_fault, rank_of_fault, BreaksRule, HasFault, IsFirstFault, HasNoFaultBelow, IsFaultless}
use Rattle.plan_check.specs.declared.fault.PlanFault.{PlanFault}
use Rattle.plan_check.specs.declared.fault.PlanFault.TheVariants.{NoSuchStrip, Twice, Early, Late, Manoeuvre, Twin}
use Rattle.strip_model.proofs.Distinct.{length_distinct-le}
use Rattle.strip_model.proofs.Words.{StripsExist-push, StripsExist-at, StripsDistinct-push, StripsDistinct-append_parts}
use Rattle.strip_model.specs.Directed.{strip_of, has, has_strip}
use Rattle.strip_model.specs.IsInstance.{IsInstance}
use Rattle.strip_model.specs.Orbit.{Orbit, window_at, early_at, late_at, duration_at, manoeuvre_at, partner_of}
use Rattle.strip_model.specs.Plan.{order_of, StripsExist, StripsDistinct, IsInWindow, KeepsManoeuvres, KeepsTwinsTogether, Feasible}
use Rattle.strip_model.specs.Twins.{keeps_twin}
use Rattle.strip_model.specs.declared.acquisition.Acquisition.{Acquisition}
use Rattle.strip_model.specs.declared.limits.TheConstants.{MAX_STRIPS}
use Rattle.strip_model.specs.declared.window.Window.{Window}

-- the strips of a list exist and are distinct
pub record AreSound (J : Orbit) (xs : List ℕ) : Type 0 where
  pub exist : StripsExist J xs
  pub distinct : StripsDistinct xs

-- before the first fault strips exist and are distinct
pub AreSound-take : (J : Orbit) (plan : List Acquisition) (k : ℕ) → k ≤ length plan → HasNoFaultBelow J plan k → AreSound J (order_of (take k plan))
AreSound-take J plan zero l below = record { exist = tt; distinct = tt }
AreSound-take J plan (suc k) l below =
    let rest = AreSound-take J plan k (omega arith) (λ f h. omega (arith, below f h)) in
    let x = (acquisition_at plan k).at in
    let exists : strip_of x < length J.strips =
    elim (cases_lt (strip_of x) (length J.strips)) [
      | inl lt ↦ lt
      | inr le ↦ absurd (omega (arith, below (NoSuchStrip k) (record { there = omega arith; broken = le })))
    ] in
    let new : has_strip (strip_of x) (order_of (take k plan)) ≡ false =
    false_from_ne_true (has_strip (strip_of x) (order_of (take k plan)))
    (λ t. omega (arith, below (Twice k) (record { there = omega arith; broken = t }))) in
    let more : order_of (take (suc k) plan) ≡ order_of (take k plan) ++ x ∷ [] =
    let s : suc k ≡ k + 1 = omega arith in
    ap (λ n. order_of (take n plan)) s ∙ order_of-take_more plan k (omega arith) in
    let S : List ℕ → Type 0 = λ xs. AreSound J xs in
    subst S (sym more) (record {
      exist = StripsExist-push J (order_of (take k plan)) x rest.exist exists;
      distinct = StripsDistinct-push (order_of (take k plan)) x rest.distinct new;
    })

-- a plan without faults has strips that exist and are distinct
AreSound-faultless : (J : Orbit) (plan : List Acquisition) → IsFaultless J plan → AreSound J (order_of plan)
AreSound-faultless J plan none =
    let S : List Acquisition → Type 0 = λ front. AreSound J (order_of front) in
    subst S (take_all (length plan) plan (omega arith)) (AreSound-take J plan (length plan) (omega arith) (λ f h. absurd (none f h)))

windows-faultless : (J : Orbit) (plan : List Acquisition) → IsFaultless J plan → AllByRecursion (IsInWindow J) plan
windows-faultless J plan none =
    all_from_places (IsInWindow J) plan no_acquisition (λ k l.
    let a = acquisition_at plan k in (
      elim (cases_lt a.start (early_at J a.at)) [
        | inl lt ↦ absurd (none (Early k) (record { there = l; broken = lt }))
        | inr le ↦ le
      ],
      elim (cases_lt (late_at J a.at) a.start) [
        | inl lt ↦ absurd (none (Late k) (record { there = l; broken = lt }))
        | inr le ↦ le
      ],
    ))

manoeuvres-faultless : (J : Orbit) (plan : List Acquisition) → IsFaultless J plan → KeepsManoeuvres J plan
manoeuvres-faultless J plan none =
    manoeuvres_from_places J plan (λ k l.
    let before = acquisition_at plan k in
    let a = acquisition_at plan (suc k) in
    let down : suc k - 1 ≡ k = omega arith in
    elim (cases_lt a.start (before.start + duration_at J before.at + manoeuvre_at J before.at a.at)) [
      | inl lt ↦ absurd (none (Manoeuvre (suc k)) (record {
        there = l;
        broken = (
          omega arith,
          let Late : ℕ → Type 0 = λ j. a.start < (acquisition_at plan j).start + duration_at J (acquisition_at plan j).at + manoeuvre_at J (acquisition_at plan j).at a.at in
              subst Late (sym down) lt,
        );
      }))
      | inr le ↦ le
    ])

twins-faultless : (J : Orbit) (plan : List Acquisition) → IsFaultless J plan → KeepsTwinsTogether J (order_of plan)
twins-faultless J plan none x y there partner =
    let found = place-has plan x there in
    let k = found.0 in
    elim (cases_Bool (has y (order_of plan))) [
      | inl t ↦ t
      | inr f ↦ absurd (none (Twin k) (record {
        there = found.1;
        broken = (y, ap (λ x. partner_of J x) found.2 ∙ partner, f);
      }))
    ]

-- a plan without faults is feasible
pub Feasible-faultless : (J : Orbit) (plan : List Acquisition) → IsFaultless J plan → Feasible J plan
Feasible-faultless J plan none =
    let sound = AreSound-faultless J plan none in
    record {
      exist = sound.exist;
      distinct = sound.distinct;
      windows = windows-faultless J plan none;
      manoeuvres = manoeuvres-faultless J plan none;
      twins = twins-faultless J plan none;
    }

-- none of the strips before a place of a feasible plan is the one there
not_twice : (plan : List Acquisition) (k : ℕ) → k < length plan → StripsDistinct (order_of plan)
    → has_strip (strip_of (acquisition_at plan k).at) (order_of (take k plan)) ≡ true → ⊥
not_twice plan k l distinct twice =
    let front = order_of (take k plan) in
    let i = strip_of (acquisition_at plan k).at in
    let D : List ℕ → Type 0 = λ xs. StripsDistinct xs in
    let parts = StripsDistinct-append_parts front _ (subst D (order_of-around plan k l) distinct) in
    both_ways _ (parts.2 i twice) (or_left (i == i) _ (eq-eqb i i refl))

-- a feasible plan has no fault
pub faultless-Feasible : (J : Orbit) (plan : List Acquisition) → Feasible J plan → IsFaultless J plan
faultless-Feasible J plan h (NoSuchStrip k) f =
    omega (arith, f.broken, StripsExist-at J (order_of plan) (acquisition_at plan k).at h.exist (has-place plan k f.there))
faultless-Feasible J plan h (Twice k) f = not_twice plan k f.there h.distinct f.broken
faultless-Feasible J plan h (Early k) f =
    let within = All-from_recursion (IsInWindow J) plan h.windows k no_acquisition f.there in
    omega (arith, f.broken, within.0)
faultless-Feasible J plan h (Late k) f =
    let within = All-from_recursion (IsInWindow J) plan h.windows k no_acquisition f.there in
    omega (arith, f.broken, within.1)
faultless-Feasible J plan h (Manoeuvre zero) f = omega (arith, f.broken.0)
faultless-Feasible J plan h (Manoeuvre (suc k)) f =
    let down : suc k - 1 ≡ k = omega arith in
    let turn = place_from_manoeuvres J plan k h.manoeuvres f.there in
    let broken = rw down at f.broken.1 in
    omega (arith, broken, turn)
faultless-Feasible J plan h (Twin k) f =
    let y = f.broken.0 in
    both_ways (has y (order_of plan)) f.broken.2 (h.twins (acquisition_at plan k).at y (has-place plan k f.there) f.broken.1)

-- a plan is feasible exactly where it has no fault
pub feasible_exactly : (J : Orbit) (plan : List Acquisition) → Feasible J plan ↔ IsFaultless J plan
feasible_exactly J plan = (faultless-Feasible J plan, Feasible-faultless J plan)

-- a plan with no fault up to its end is feasible
pub Feasible-to_end : (J : Orbit) (plan : List Acquisition) (k : ℕ) → length plan ≤ k → HasNoFaultBelow J plan k → Feasible J plan
Feasible-to_end J plan k end below = Feasible-faultless J plan (λ f h. omega (arith, below f h, h.there))

-- the place of a first fault is small, since the strips before it are distinct
pub small_place : (J : Orbit) (plan : List Acquisition) (k : ℕ) → IsInstance J → k ≤ length plan → HasNoFaultBelow J plan k → k ≤ MAX_STRIPS
small_place J plan k instance l below =
    let front = order_of (take k plan) in
    let sound = AreSound-take J plan k l below in
    omega (
      arith,
      length_distinct-le J front sound.exist sound.distinct,
      instance.limits.few_strips,
      length-map (take k plan) (λ (a : Acquisition). a.at),
      length-take-le k plan l,
    )

-- before the first fault each strip exists
pub exists_below : (J : Orbit) (plan : List Acquisition) (k j : ℕ) → k ≤ length plan → HasNoFaultBelow J plan k → j < k
    → strip_of (acquisition_at plan j).at < length J.strips
exists_below J plan k j l below before =
    elim (cases_lt (strip_of (acquisition_at plan j).at) (length J.strips)) [
      | inl lt ↦ lt
      | inr le ↦ absurd (omega (arith, below (NoSuchStrip j) (record { there = omega arith; broken = le })))
    ]

-- a fault is the first where no fault is below its place, and at its place none is tested before it
pub first_of : (J : Orbit) (plan : List Acquisition) (fault : PlanFault) → HasNoFaultBelow J plan (place_of_fault fault) → HasFault J plan fault
    → ((other : PlanFault) → BreaksRule J plan other → place_of_fault other ≡ place_of_fault fault → rank_of_fault other < rank_of_fault fault → ⊥)
    → IsFirstFault J plan fault
first_of J plan fault below h before = record {
  stands = h;
  first = λ other o.
      elim (cases_lt (place_of_fault fault) (place_of_fault other)) [
        | inl lt ↦ inl lt
        | inr le ↦
            let same : place_of_fault other ≡ place_of_fault fault = omega (arith, below other o, le) in
            elim (cases_lt (rank_of_fault other) (rank_of_fault fault)) [
              | inl lt ↦ absurd (before other o.broken same lt)
              | inr le ↦ inr (sym same, le)
            ]
      ];
}

-- the acquisition at place k is of a strip that exists and didn't stand before, in its window
pub record Passes (J : Orbit) (plan : List Acquisition) (k : ℕ) : Type 0 where
  pub exists : strip_of (acquisition_at plan k).at < length J.strips
  pub new : has_strip (strip_of (acquisition_at plan k).at) (order_of (take k plan)) ≡ false
  pub early : early_at J (acquisition_at plan k).at ≤ (acquisition_at plan k).start
  pub late : (acquisition_at plan k).start ≤ late_at J (acquisition_at plan k).at

pub passes : (J : Orbit) (plan : List Acquisition) (k : ℕ) (a : Acquisition) (w : Window) → a ≡ acquisition_at plan k
    → strip_of a.at < length J.strips → has_strip (strip_of a.at) (order_of (take k plan)) ≡ false
    → w ≡ window_at J a.at → w.early ≤ a.start → a.start ≤ w.late → Passes J plan k
passes J plan k a w at exists new window early late =
    let P : Acquisition → Type 0 = λ a. (strip_of a.at < length J.strips) × (has_strip (strip_of a.at) (order_of (take k plan)) ≡ false)
    × (early_at J a.at ≤ a.start) × (a.start ≤ late_at J a.at) in
    let all = subst P at (exists, new, rw window at early, rw window at late) in
    record { exists = all.0; new = all.1; early = all.2; late = all.3 }

-- what passes has no fault that is tested before that of the manoeuvre
pub passed : (J : Orbit) (plan : List Acquisition) (k : ℕ) → Passes J plan k → (other : PlanFault) → BreaksRule J plan other → place_of_fault other ≡ k → rank_of_fault other < 4 → ⊥
passed J plan k p (NoSuchStrip j) b e r = let b' = rw e at b in omega (arith, p.exists, b')
passed J plan k p (Twice j) b e r = both_ways _ p.new (rw e at b)
passed J plan k p (Early j) b e r = let b' = rw e at b in omega (arith, p.early, b')
passed J plan k p (Late j) b e r = let b' = rw e at b in omega (arith, p.late, b')
passed J plan k p (Manoeuvre j) b e r = omega arith
passed J plan k p (Twin j) b e r = omega arith

-- nor, if the manoeuvre has its time, one that is tested before that of the twin
pub passed_turn : (J : Orbit) (plan : List Acquisition) (k : ℕ) → Passes J plan k → (BreaksRule J plan (Manoeuvre k) → ⊥)
    → (other : PlanFault) → BreaksRule J plan other → place_of_fault other ≡ k → rank_of_fault other < 5 → ⊥
passed_turn J plan k p turn (NoSuchStrip j) b e r = passed J plan k p (NoSuchStrip j) b e (omega arith)
passed_turn J plan k p turn (Twice j) b e r = passed J plan k p (Twice j) b e (omega arith)
passed_turn J plan k p turn (Early j) b e r = passed J plan k p (Early j) b e (omega arith)
passed_turn J plan k p turn (Late j) b e r = passed J plan k p (Late j) b e (omega arith)
passed_turn J plan k p turn (Manoeuvre j) b e r = turn (rw e at b)
passed_turn J plan k p turn (Twin j) b e r = omega arith

no_partner : (J : Orbit) (plan : List Acquisition) (x : ℕ) (p : Option ℕ) → partner_of J x ≡ p → option_map_or (λ y. has y (order_of plan)) p true ≡ false
    → (y : ℕ) × (partner_of J x ≡ Some y) × (has y (order_of plan) ≡ false)
no_partner J plan x None e missing = absurd (true≢false missing)
no_partner J plan x (Some y) e missing = (y, e, missing)

-- if the twin is missing, that is the fault
pub broken_twin : (J : Orbit) (plan : List Acquisition) (k : ℕ) → keeps_twin J (order_of plan) (acquisition_at plan k).at ≡ false → BreaksRule J plan (Twin k)
broken_twin J plan k missing = no_partner J plan (acquisition_at plan k).at (partner_of J (acquisition_at plan k).at) refl missing

some_partner : (J : Orbit) (plan : List Acquisition) (x y : ℕ) (p : Option ℕ) → p ≡ Some y → option_map_or (λ y. has y (order_of plan)) p true ≡ true → has y (order_of plan) ≡ true
some_partner J plan x y None e there = absurd (cc)
some_partner J plan x y (Some z) e there = let same : z ≡ y = cc in rw same at there

-- if all is well at place k, no fault is there
pub none_at : (J : Orbit) (plan : List Acquisition) (k : ℕ) → HasNoFaultBelow J plan k → Passes J plan k → (BreaksRule J plan (Manoeuvre k) → ⊥)
    → keeps_twin J (order_of plan) (acquisition_at plan k).at ≡ true → HasNoFaultBelow J plan (k + 1)
none_at J plan k below p turn there fault h =
    elim (cases_lt k (place_of_fault fault)) [
      | inl lt ↦ omega arith
      | inr le ↦ absurd (here fault h.broken (omega (arith, below fault h, le)))
    ]
  where
    here : (fault : PlanFault) → BreaksRule J plan fault → place_of_fault fault ≡ k → ⊥
    here (Twin j) b e =
        let missing : BreaksRule J plan (Twin k) = rw e at b in
        both_ways (has missing.0 (order_of plan)) missing.2 (some_partner J plan (acquisition_at plan k).at missing.0 (partner_of J (acquisition_at plan k).at) missing.1 there)
    here (NoSuchStrip j) b e = passed J plan k p (NoSuchStrip j) b e (omega arith)
    here (Twice j) b e = passed J plan k p (Twice j) b e (omega arith)
    here (Early j) b e = passed J plan k p (Early j) b e (omega arith)
    here (Late j) b e = passed J plan k p (Late j) b e (omega arith)
    here (Manoeuvre j) b e = turn (rw e at b)
