-- The twins of two halves: what one needs is open in the other.
use Rattle.std.proofs.Common.{◌≡◌, ◌⊎◌, ℕ, ◌+◌, ◌*◌, true, false, not, List, ◌++◌, reverse, Option, Some, None, option_map, refl, sym, ◌∙◌, ap, subst, inl, inr, true≢false, arith}
use Rattle.std.proofs.lemmas.Bool.{and_from, and_parts, cases_Bool, both_ways, not-true, not_from_false}
use Rattle.std.specs.Cmp.{both_ways as same_tests}
use Rattle.std.specs.Option.{option_map_or}
use Rattle.strip_model.proofs.Completing.{completion_has_needs}
use Rattle.strip_model.proofs.Needing.{Need-from_needs, needs-from_Need}
use Rattle.strip_model.proofs.Orders.{IsFeasibleOrder}
use Rattle.strip_model.proofs.Twins.{AreTwins-partner, partner_of_mutual, partner_of-one_way}
use Rattle.strip_model.proofs.Words.{has_left, has_right, has_cases, has-reverse, has_strip-from_has, has-from_has_strip}
use Rattle.strip_model.specs.Directed.{strip_of, direction_of, has, has_strip}
use Rattle.strip_model.specs.IsInstance.{IsInstance}
use Rattle.strip_model.specs.Orbit.{Orbit, twin_at, partner_of}
use Rattle.strip_model.specs.Plan.{KeepsTwinsTogether}
use Rattle.strip_model.specs.Reach.{needs, lacks_twin, is_open}
use Rattle.strip_model.specs.Twins.{HasTwinsOneWay}

-- x stands in the path, and the strip of its partner does not
pub record Opens (H : Orbit) (path : List ℕ) (x : ℕ) : Type 0 where
  pub there : has x path ≡ true
  pub mate : ℕ
  pub is : partner_of H x ≡ Some mate
  pub lacks : has_strip (strip_of mate) path ≡ false

-- what is open, in terms of partners
pub Opens-from_open : (H : Orbit) (path : List ℕ) (x : ℕ) → is_open H path x ≡ true → Opens H path x
Opens-from_open H path x h =
    let parts = and_parts (has x path) (lacks_twin H path x) h in
    let twin = some (twin_at H (strip_of x)) path parts.1 in
    let z = 2 * twin.0 + direction_of x in
    let half : strip_of z ≡ twin.0 = omega arith in
    record {
      there = parts.0;
      mate = z;
      is = ap (λ (o : Option ℕ). option_map (λ (t : ℕ). 2 * t + direction_of x) o) twin.1;
      lacks = ap (λ (i : ℕ). has_strip i path) half ∙ twin.2;
    }
  where
    some : (o : Option ℕ) (path : List ℕ) → option_map_or (λ t. not (has_strip t path)) o false ≡ true
        → (t : ℕ) × (o ≡ Some t) × (has_strip t path ≡ false)
    some None path h = absurd (true≢false (sym h))
    some (Some t) path h = (t, refl, not-true (has_strip t path) h)

pub open-from_Opens : (H : Orbit) (path : List ℕ) (x mate : ℕ) → has x path ≡ true → partner_of H x ≡ Some mate
    → has_strip (strip_of mate) path ≡ false → is_open H path x ≡ true
open-from_Opens H path x mate there is lacks =
    and_from (has x path) (lacks_twin H path x) there
    (ap (λ (o : Option ℕ). option_map_or (λ t. not (has_strip t path)) o false) (AreTwins-partner H x mate is).twins
    ∙ not_from_false (has_strip (strip_of mate) path) lacks)

-- the strips of two lists are apart, seen from the second
apart_back : (f b : List ℕ) → ((i : ℕ) → has_strip i f ≡ true → has_strip i b ≡ false) → (i : ℕ) → has_strip i b ≡ true → has_strip i f ≡ false
apart_back f b apart i there =
    elim (cases_Bool (has_strip i f)) [
      | inl both ↦ absurd (both_ways (has_strip i b) (apart i both) there)
      | inr lacks ↦ lacks
    ]

-- where a list followed by another turned round keeps twins together, the needs of the first are open in the second
pub needs_met-joined : (J K : Orbit) → IsInstance J → ((x : ℕ) → partner_of K x ≡ partner_of J x) → (f b : List ℕ)
    → IsFeasibleOrder J (f ++ reverse b) → ((i : ℕ) → has_strip i f ≡ true → has_strip i b ≡ false)
    → (z : ℕ) → has z (needs J f) ≡ is_open K b z
needs_met-joined J K inst same f b o apart z = same_tests (has z (needs J f)) (is_open K b z) to from
  where
    to : has z (needs J f) ≡ true → is_open K b z ≡ true
    to needed =
        let need = Need-from_needs J f z needed in
        open-from_Opens K b z need.of (sym (has-reverse z b) ∙ completion_has_needs J f (reverse b) o z needed)
        (same z ∙ partner_of_mutual J need.of z inst need.is)
        (apart (strip_of need.of) (has_strip-from_has need.of f need.there))

    from : is_open K b z ≡ true → has z (needs J f) ≡ true
    from opens =
        let open_one = Opens-from_open K b z opens in
        let w = open_one.mate in
        let is : partner_of J z ≡ Some w = sym (same z) ∙ open_one.is in
        elim (has_cases w f (reverse b) (o.twins z w (has_right z f (reverse b) (has-reverse z b ∙ open_one.there)) is)) [
          | inl there ↦ needs-from_Need J f z w there (partner_of_mutual J z w inst is)
              (apart_back f b apart (strip_of z) (has_strip-from_has z b open_one.there))
          | inr behind ↦ absurd (both_ways (has_strip (strip_of w) b) open_one.lacks (has_strip-from_has w b (sym (has-reverse w b) ∙ behind)))
        ]

-- where twins of each list have one direction, and the needs of the first are open in the second, the first followed by the
-- second turned round keeps twins together
pub KeepsTwinsTogether-joined : (J K : Orbit) → IsInstance J → ((x : ℕ) → partner_of K x ≡ partner_of J x) → (f b : List ℕ)
    → HasTwinsOneWay J f → HasTwinsOneWay K b → ((z : ℕ) → has z (needs J f) ≡ is_open K b z) → KeepsTwinsTogether J (f ++ reverse b)
KeepsTwinsTogether-joined J K inst same f b front back met x y there is =
    elim (has_cases x f (reverse b) there) [
      | inl first ↦ of_first first (cases_Bool (has_strip (strip_of y) f))
      | inr second ↦ of_second (sym (has-reverse x b) ∙ second) (cases_Bool (has_strip (strip_of y) b))
    ]
  where
    some : (k l : ℕ) → Some k ≡ Some l → k ≡ l
    some k l e = cc

    in_second : (z : ℕ) → has z b ≡ true → has z (f ++ reverse b) ≡ true
    in_second z h = has_right z f (reverse b) (has-reverse z b ∙ h)

    of_first : has x f ≡ true → (has_strip (strip_of y) f ≡ true) ⊎ (has_strip (strip_of y) f ≡ false) → has y (f ++ reverse b) ≡ true
    of_first first (inl stands) =
        let found = has-from_has_strip (strip_of y) f stands in
        has_left y f (reverse b)
        (subst (λ (z : ℕ). has z f ≡ true) (partner_of-one_way J f front x found.0 y first found.1 is found.2) found.1)
    of_first first (inr lacks) =
        in_second y (Opens-from_open K b y (sym (met y) ∙ needs-from_Need J f y x first is lacks)).there

    of_second : has x b ≡ true → (has_strip (strip_of y) b ≡ true) ⊎ (has_strip (strip_of y) b ≡ false) → has y (f ++ reverse b) ≡ true
    of_second second (inl stands) =
        let found = has-from_has_strip (strip_of y) b stands in
        in_second y
        (subst (λ (z : ℕ). has z b ≡ true) (partner_of-one_way K b back x found.0 y second found.1 (same x ∙ is) found.2) found.1)
    of_second second (inr lacks) =
        let need = Need-from_needs J f x (met x ∙ open-from_Opens K b x y second (same x ∙ is) lacks) in
        let one : need.of ≡ y = some need.of y (sym (partner_of_mutual J need.of x inst need.is) ∙ is) in
        has_left y f (reverse b) (subst (λ (z : ℕ). has z f ≡ true) one need.there)
