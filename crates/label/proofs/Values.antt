-- No set gains more than its value.
use Rattle.std.proofs.Common.{◌≡◌, ℕ, zero, suc, ◌+◌, ◌*◌, ◌<◌, ◌≤◌, Bool, true, false, ◌||◌, ◌==◌, if◌then◌else◌, List, length, sym, ◌∙◌, ap, inl, inr, mul-zero, mul-le-mul, le_refl, le_trans, le_of_eq, arith}
use Rattle.std.proofs.Math.Nat.{mul-add}
use Rattle.std.proofs.lemmas.Bool.{cases_eq, cond-true, cond-false, eq-eqb, ne_eqb}
use Rattle.label.proofs.SetSums.{set_area-le}
use Rattle.label.specs.Gaining.{set_area, set_gain, set_value, strip_value, area_in_set}
use Rattle.strip_model.proofs.Gains.{gain_at-le}
use Rattle.strip_model.proofs.Shares.{share_at-under_chord}
use Rattle.strip_model.proofs.Sums.{sum_below-le-sum_below, sum_below_same, sum_below-zero, sum_below-add, sum_below_constant, sum_below_one-le}
use Rattle.strip_model.specs.Directed.{has}
use Rattle.strip_model.specs.Gain.{sum_below, area_for, share_at}
use Rattle.strip_model.specs.IsInstance.{IsInstance}
use Rattle.strip_model.specs.Orbit.{Orbit, no_strip, gain_at, strip_at, request_at, area_at}
use Rattle.strip_model.specs.declared.limits.TheConstants.{MAX_GAIN, MAX_STRIP_AREA, MAX_STRIPS, MAX_TOTAL_GAIN}

-- Sums of weighted sums, added up the other way round, where each column adds up to at most its bound.
sum_of_sums-le : (m n : ℕ) (g : ℕ → ℕ) (h : ℕ → ℕ → ℕ) (w : ℕ → ℕ) → ((i : ℕ) → sum_below m (λ r. g r * h r i) ≤ w i)
    → sum_below m (λ r. g r * sum_below n (h r)) ≤ sum_below n w
sum_of_sums-le m zero g h w each = omega (arith, sum_below-zero m (λ r. g r * 0) (λ r l. mul-zero (g r)))
sum_of_sums-le m (suc n) g h w each =
    omega (
      arith,
      sum_below_same m (λ r. g r * (sum_below n (h r) + h r n)) (λ r. g r * sum_below n (h r) + g r * h r n) (λ r l. mul-add (g r) (sum_below n (h r)) (h r n)),
      sum_below-add m (λ r. g r * sum_below n (h r)) (λ r. g r * h r n),
      sum_of_sums-le m n g h w each,
      each n,
    )

-- the price of the one number that has an area
priced : (g : ℕ → ℕ) (i a r : ℕ) → g r * (if i == r then a else 0) ≡ (if i == r then g i * a else 0)
priced g i a r =
    elim (cases_eq i r) [
      | inl same ↦
          ap (λ (v : ℕ). g r * v) (cond-true (i == r) a 0 (eq-eqb i r same))
          ∙ ap (λ (k : ℕ). g k * a) (sym same)
          ∙ sym (cond-true (i == r) (g i * a) 0 (eq-eqb i r same))
      | inr other ↦
          ap (λ (v : ℕ). g r * v) (cond-false (i == r) a 0 (ne_eqb i r other))
          ∙ mul-zero (g r)
          ∙ sym (cond-false (i == r) (g i * a) 0 (ne_eqb i r other))
    ]

-- all requests together pay for a strip no more than its own
paid_once : (m : ℕ) (g : ℕ → ℕ) (b : Bool) (i a : ℕ) → sum_below m (λ r. g r * (if b then (if i == r then a else 0) else 0)) ≤ (if b then g i * a else 0)
paid_once m g true i a =
    omega (
      arith,
      sum_below_same m (λ r. g r * (if i == r then a else 0)) (λ r. if i == r then g i * a else 0) (λ r l. priced g i a r),
      sum_below_one-le m i (g i * a),
    )
paid_once m g false i a = omega (arith, sum_below-zero m (λ r. g r * 0) (λ r l. mul-zero (g r)))

-- a set gains at most its value
pub set_gain-le-set_value : (J : Orbit) (set : List ℕ) → set_gain J set ≤ set_value J set
set_gain-le-set_value J set =
    le_trans
    (sum_below-le-sum_below (length J.requests) (λ r. share_at J r (set_area J set r)) (λ r. 20 * gain_at J r * set_area J set r)
    (λ r l. share_at-under_chord J r (set_area J set r) (set_area-le J set r)))
    (sum_of_sums-le (length J.requests) (length J.strips) (λ r. 20 * gain_at J r) (λ r i. if has i set then area_for r (strip_at J i) else 0)
    (λ i. if has i set then strip_value J i else 0)
    (λ i. paid_once (length J.requests) (λ r. 20 * gain_at J r) (has i set) (request_at J i) (area_at J i)))

-- the value of the members of two sets is at most their two values
pub set_value-both : (J : Orbit) (a b both : List ℕ) → ((i : ℕ) → has i both ≡ (has i a || has i b)) → set_value J both ≤ set_value J a + set_value J b
set_value-both J a b both joined =
    let w = strip_value J in
    omega (
      arith,
      sum_below-le-sum_below (length J.strips) (λ i. if has i both then w i else 0) (λ i. (if has i a then w i else 0) + (if has i b then w i else 0))
          (λ i l. le_trans (le_of_eq (ap (λ (t : Bool). if t then w i else 0) (joined i))) (either (has i a) (has i b) (w i))),
      sum_below-add (length J.strips) (λ i. if has i a then w i else 0) (λ i. if has i b then w i else 0),
    )
  where
    either : (p q : Bool) (v : ℕ) → (if p || q then v else 0) ≤ (if p then v else 0) + (if q then v else 0)
    either true q v = omega arith
    either false q v = omega arith

-- so no two sets gain more together than their two values
pub set_gain-both : (J : Orbit) (a b both : List ℕ) → ((i : ℕ) → has i both ≡ (has i a || has i b)) → set_gain J both ≤ set_value J a + set_value J b
set_gain-both J a b both joined = le_trans (set_gain-le-set_value J both) (set_value-both J a b both joined)

-- a strip's value is within the limits
pub strip_value-le : (J : Orbit) (i : ℕ) → IsInstance J → i < length J.strips → strip_value J i ≤ 20 * MAX_GAIN * MAX_STRIP_AREA
strip_value-le J i h l =
    mul-le-mul (mul-le-mul (le_refl 20) (gain_at-le J (request_at J i) h)) (h.limits.each_strip i no_strip l).small

-- no set is worth more than the greatest total
pub set_value-le : (J : Orbit) (set : List ℕ) → IsInstance J → set_value J set ≤ MAX_TOTAL_GAIN
set_value-le J set h =
    let most = 20 * MAX_GAIN * MAX_STRIP_AREA in
    omega (
      arith,
      sum_below-le-sum_below (length J.strips) (λ i. if has i set then strip_value J i else 0) (λ i. most)
          (λ i l. within (has i set) (strip_value J i) most (strip_value-le J i h l)),
      sum_below_constant (length J.strips) most,
      h.limits.few_strips,
    )
  where
    within : (p : Bool) (v most : ℕ) → v ≤ most → (if p then v else 0) ≤ most
    within true v most l = l
    within false v most l = omega arith

-- nor has more area than all strips can have
pub area_in_set-le : (J : Orbit) (set : List ℕ) → IsInstance J → area_in_set J set ≤ MAX_STRIPS * MAX_STRIP_AREA
area_in_set-le J set h =
    omega (
      arith,
      sum_below-le-sum_below (length J.strips) (λ i. if has i set then area_at J i else 0) (λ i. MAX_STRIP_AREA)
          (λ i l. within (has i set) (area_at J i) MAX_STRIP_AREA (h.limits.each_strip i no_strip l).small),
      sum_below_constant (length J.strips) MAX_STRIP_AREA,
      h.limits.few_strips,
    )
  where
    within : (p : Bool) (v most : ℕ) → v ≤ most → (if p then v else 0) ≤ most
    within true v most l = l
    within false v most l = omega arith
