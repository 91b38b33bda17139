-- Dominance of two paths, by what is kept of them.
use Rattle.std.proofs.Common.{◌≡◌, ℕ, ◌+◌, ◌*◌, ◌≤◌, Bool, true, false, ◌&&◌, List, ◌++◌, length, ℤ, pos, ◌*ℤ◌, ◌≤ℤ◌, refl, sym, ◌∙◌, ap, subst, le_trans, le_of_eq, true≢false, arith}
use Rattle.gain_curve.specs.Difference.{worst}
use Rattle.std.proofs.Common.{inl, inr, ◌/◌, ◌⊎◌}
use Rattle.std.proofs.lemmas.Bool.{or_cases, or_left, or_right}
use Rattle.label.proofs.PathAreas.{set_area-path, set_room-is, reaches_strip-new}
use Rattle.label.specs.Outlines.{reaches_strip}
use Rattle.label.specs.Gaining.{set_area, set_room, set_difference, SetGainsNoLess}
use Rattle.std.specs.Prelude.{◌↔◌}
use Rattle.strip_model.proofs.JoinedGains.{gain_with-no_less}
use Rattle.strip_model.proofs.Orders.{Feasible-order, IsFeasibleOrder-earliest}
use Rattle.strip_model.proofs.Shares.{gain_with_same}
use Rattle.strip_model.proofs.Starts.{gain_of-earliest}
use Rattle.strip_model.proofs.TakingOver.{dominator_takes_over}
use Rattle.strip_model.proofs.Weighing.{worst_of, weighed, int_sum_below_same, sum-GainsNoLess, GainsNoLess-sum}
use Rattle.strip_model.specs.Directed.{strip_of, has, has_strip}
use Rattle.strip_model.specs.Dominance.{int_sum_below, IsNoLater, Dominates}
use Rattle.strip_model.specs.Gain.{area_in, whole_area, gain_in}
use Rattle.strip_model.specs.IsInstance.{IsInstance}
use Rattle.strip_model.specs.Orbit.{Orbit, gain_at}
use Rattle.strip_model.specs.Plan.{Feasible, gain_of}
use Rattle.strip_model.specs.Reach.{needs, reaches, area_reached}
use Rattle.strip_model.specs.Starts.{Place, Root, After, earliest, place_after, IsInTime}
use Rattle.strip_model.specs.Twins.{HasTwinsOneWay}

-- what dominance looks at of a path in time: its last acquisition, its strips and its needs
pub record IsOutline (J : Orbit) (path : List ℕ) (start last : ℕ) (visited_set needed_set : List ℕ) : Type 0 where
  pub in_time : IsInTime J path
  pub at : place_after J Root path ≡ After start last
  pub visited : (i : ℕ) → has i visited_set ≡ has_strip i path
  pub needed : (z : ℕ) → has z needed_set ≡ has z (needs J path)

no_later_parts : (p q : Place) (s x t y : ℕ) → p ≡ After s x → q ≡ After t y → IsNoLater p q → (x ≡ y) × (s ≤ t)
no_later_parts p q s x t y at_p at_q h =
    subst (λ (k : Place). IsNoLater (After s x) k) at_q (subst (λ (k : Place). IsNoLater k q) at_p h)

no_later_from : (p q : Place) (s x t y : ℕ) → p ≡ After s x → q ≡ After t y → x ≡ y → s ≤ t → IsNoLater p q
no_later_from p q s x t y at_p at_q last sooner =
    subst (λ (k : Place). IsNoLater k q) (sym at_p) (subst (λ (k : Place). IsNoLater (After s x) k) (sym at_q) (last, sooner))

module _ (J : Orbit) (b a : List ℕ) (s x t y : ℕ) (vb nb va na : List ℕ) (ob : IsOutline J b s x vb nb) (oa : IsOutline J a t y va na) where
  pub Dominates-last : Dominates J b a → x ≡ y
  Dominates-last dom = (no_later_parts (place_after J Root b) (place_after J Root a) s x t y ob.at oa.at dom.no_later).0

  pub Dominates-start : Dominates J b a → s ≤ t
  Dominates-start dom = (no_later_parts (place_after J Root b) (place_after J Root a) s x t y ob.at oa.at dom.no_later).1

  pub Dominates-needed : Dominates J b a → (z : ℕ) → has z nb ≡ has z na
  Dominates-needed dom z = ob.needed z ∙ dom.same_needs z ∙ sym (oa.needed z)

-- what is in reach of the second stands in neither
pub in_reach-apart : (J : Orbit) (b a : List ℕ) → ((z : ℕ) → reaches J a z ≡ true → has_strip (strip_of z) b ≡ false)
    → (i : ℕ) → reaches_strip J a i ≡ true → has_strip i b ≡ false
in_reach-apart J b a apart i h =
    let forth : strip_of (2 * i) ≡ i = omega arith in
    let back : strip_of (2 * i + 1) ≡ i = omega arith in
    elim (or_cases (reaches J a (2 * i)) (reaches J a (2 * i + 1)) h) [
      | inl u ↦ ap (λ (j : ℕ). has_strip j b) (sym forth) ∙ apart (2 * i) u
      | inr u ↦ ap (λ (j : ℕ). has_strip j b) (sym back) ∙ apart (2 * i + 1) u
    ]

-- a directed strip in reach is of a strip in reach
in_reach-strip : (J : Orbit) (a : List ℕ) (z : ℕ) → reaches J a z ≡ true → reaches_strip J a (strip_of z) ≡ true
in_reach-strip J a z h =
    elim (directions z) [
      | inl forth ↦ or_left (reaches J a (2 * strip_of z)) (reaches J a (2 * strip_of z + 1)) (ap (λ (k : ℕ). reaches J a k) (sym forth) ∙ h)
      | inr back ↦ or_right (reaches J a (2 * strip_of z)) (reaches J a (2 * strip_of z + 1)) (ap (λ (k : ℕ). reaches J a k) (sym back) ∙ h)
    ]
  where
    directions : (z : ℕ) → (z ≡ 2 * (z / 2)) ⊎ (z ≡ 2 * (z / 2) + 1)
    directions z = grind arith

-- without more area the dominator gains no less
pub Dominates-gain : (J : Orbit) (b a : List ℕ) → Dominates J b a → gain_in J a ≤ gain_in J b
Dominates-gain J b a dom =
    le_trans (le_of_eq (gain_with_same J (λ r. area_in J r a) (λ r. area_in J r a + 0) (λ r l. omega arith)))
    (le_trans (gain_with-no_less J b a (λ r. 0) dom.gains (λ r. omega arith))
    (le_of_eq (gain_with_same J (λ r. area_in J r b + 0) (λ r. area_in J r b) (λ r l. omega arith))))

module _ (J : Orbit) (b a : List ℕ) (s x t y : ℕ) (vb nb va na reach : List ℕ) (ob : IsOutline J b s x vb nb) (oa : IsOutline J a t y va na)
    (in_reach : (i : ℕ) → has i reach ≡ reaches_strip J a i) where
  -- the dominator's strips are apart from the reach
  pub Dominates-apart : Dominates J b a → (i : ℕ) → has i reach ≡ true → has i vb ≡ false
  Dominates-apart dom i h = ob.visited i ∙ in_reach-apart J b a dom.apart i (sym (in_reach i) ∙ h)

  own_apart : (i : ℕ) → has i reach ≡ true → has i va ≡ false
  own_apart i h = oa.visited i ∙ reaches_strip-new J a i (sym (in_reach i) ∙ h)

  -- the least differences of the sets are those of the paths
  weighed-sets : ((i : ℕ) → has i reach ≡ true → has i vb ≡ false)
      → weighed J b a ≡ int_sum_below (length J.requests) (set_difference J vb va (set_room J vb va reach))
  weighed-sets apart =
      int_sum_below_same (length J.requests) (λ r. pos (gain_at J r) *ℤ worst_of J b a r) (set_difference J vb va (set_room J vb va reach))
      (λ r l.
      ap (λ (v : ℕ). pos (gain_at J r) *ℤ worst v (area_in J r a) (area_reached J r a) (whole_area J r)) (sym (set_area-path J r b vb ob.in_time ob.visited))
      ∙ ap (λ (v : ℕ). pos (gain_at J r) *ℤ worst (set_area J vb r) v (area_reached J r a) (whole_area J r)) (sym (set_area-path J r a va oa.in_time oa.visited))
      ∙ ap (λ (v : ℕ). pos (gain_at J r) *ℤ worst (set_area J vb r) (set_area J va r) v (whole_area J r)) (sym (set_room-is J r a vb va reach in_reach apart own_apart)))

  -- Once the other tests have passed, the sum decides.
  pub sum_decides : x ≡ y → s ≤ t → ((i : ℕ) → has i reach ≡ true → has i vb ≡ false) → ((z : ℕ) → has z nb ≡ has z na)
      → SetGainsNoLess J vb va reach ↔ Dominates J b a
  sum_decides last sooner apart same = (
    λ h. record {
      no_later = no_later_from (place_after J Root b) (place_after J Root a) s x t y ob.at oa.at last sooner;
      apart = λ z in_a. sym (ob.visited (strip_of z)) ∙ apart (strip_of z) (in_reach (strip_of z) ∙ in_reach-strip J a z in_a);
      same_needs = λ z. sym (ob.needed z) ∙ same z ∙ oa.needed z;
      gains = GainsNoLess-sum J b a (subst (λ (d : ℤ). pos 0 ≤ℤ d) (sym (weighed-sets apart)) h);
    },
    λ dom. subst (λ (d : ℤ). pos 0 ≤ℤ d) (weighed-sets apart) (sum-GainsNoLess J b a dom.gains),
  )

-- what a dominator takes over, said of plans
pub taken_over : (J : Orbit) → IsInstance J → (b a c : List ℕ) → IsInTime J b → HasTwinsOneWay J b → Dominates J b a
    → Feasible J (earliest J Root (a ++ c))
    → Feasible J (earliest J Root (b ++ c)) × (gain_of J (earliest J Root (a ++ c)) ≤ gain_of J (earliest J Root (b ++ c)))
taken_over J inst b a c in_time one_way dom h =
    let over = dominator_takes_over J inst b a c in_time one_way dom (IsFeasibleOrder-earliest J (a ++ c) h) in (
      Feasible-order J (b ++ c) over.feasible,
      le_trans (le_of_eq (gain_of-earliest J (a ++ c))) (le_trans over.gains (le_of_eq (sym (gain_of-earliest J (b ++ c))))),
    )

-- what no strip of both sets says of one that stands in the second
pub not_in_first : (p q : Bool) → (p && q) ≡ false → q ≡ true → p ≡ false
not_in_first false q none there = refl
not_in_first true true none there = none
not_in_first true false none there = absurd (true≢false (sym there))
