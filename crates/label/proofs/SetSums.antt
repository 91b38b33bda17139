-- Sums over the members of a set, as a loop over its rising list adds them up.
use Rattle.std.proofs.Common.{◌≡◌, ◌≢◌, ℕ, zero, suc, ◌+◌, ◌<◌, ◌≤◌, Bool, true, false, ◌||◌, ◌==◌, if◌then◌else◌, List, [], ◌∷◌, length, refl, sym, ◌∙◌, ap, ◌*◌, mul-zero, true≢false, inl, inr, arith}
use Rattle.std.proofs.lemmas.Bool.{cases_eq, eq-eqb, ne_eqb}
use Rattle.std.proofs.lemmas.List.{get_or_past}
use Rattle.label.specs.Gaining.{set_area, strip_value}
use Rattle.strip_model.proofs.Reaching.{area_where-apart}
use Rattle.strip_model.proofs.Sums.{sum_below_same, sum_below-zero}
use Rattle.strip_model.specs.Directed.{has}
use Rattle.strip_model.specs.Gain.{sum_below, area_for, whole_area}
use Rattle.strip_model.specs.IsInstance.{IsInstance}
use Rattle.strip_model.specs.declared.limits.TheConstants.{MAX_STRIP_AREA}
use Rattle.strip_model.specs.Orbit.{Orbit, no_strip, strip_in, strip_at, area_at, gain_at, request_at}
use Rattle.strip_model.specs.declared.strip.Strip.{Strip}
use Rattle.strip_set.proofs.Members.{IsSet-tail}
use Rattle.strip_set.specs.Laws.{head_once}
use Rattle.strip_set.specs.Members.{IsSet}
use Rattle.strip_set.specs.declared.strip_set.TheConstants.{MAX_STRIPS}

-- the weights of the members below n, added up
abbrev pub weight_of : ℕ → (ℕ → ℕ) → List ℕ → ℕ
weight_of n w set = sum_below n (λ i. if has i set then w i else 0)

-- where only i is new in a list, another number stands there as before
stands_as_before : (k i v : ℕ) (xs : List ℕ) → i ≢ k → (if has k (i ∷ xs) then v else 0) ≡ (if has k xs then v else 0)
stands_as_before k i v xs other = ap (λ (b : Bool). if b || has k xs then v else 0) (ne_eqb i k other)

-- A new member adds its weight, where numbers past the end weigh nothing.
pub weight_of-member : (n i : ℕ) (w : ℕ → ℕ) (xs : List ℕ) → has i xs ≡ false → (n ≤ i → w i ≡ 0)
    → weight_of n w (i ∷ xs) ≡ w i + weight_of n w xs
weight_of-member zero i w xs new past = omega (arith, past (omega arith))
weight_of-member (suc n) i w xs new past =
    elim (cases_eq i n) [
      | inl same ↦
          let others : weight_of n w (i ∷ xs) ≡ weight_of n w xs =
          sum_below_same n (λ k. if has k (i ∷ xs) then w k else 0) (λ k. if has k xs then w k else 0)
          (λ k l. stands_as_before k i (w k) xs (λ e. absurd (omega (arith, e, l, same)))) in
          let here : (if has n (i ∷ xs) then w n else 0) ≡ w i =
          ap (λ (b : Bool). if b || has n xs then w n else 0) (eq-eqb i n same) ∙ ap w (sym same) in
          let before : (if has n xs then w n else 0) ≡ 0 =
          ap (λ (b : Bool). if b then w n else 0) (ap (λ (j : ℕ). has j xs) (sym same) ∙ new) in
          omega (arith, others, here, before)
      | inr other ↦
          omega (arith, weight_of-member n i w xs new (λ l. past (above n i l other)), stands_as_before n i (w n) xs other)
    ]
  where
    above : (n i : ℕ) → n ≤ i → i ≢ n → suc n ≤ i
    above n i l other = omega arith

-- an empty set weighs nothing
pub weight_of-nil : (n : ℕ) (w : ℕ → ℕ) → weight_of n w [] ≡ 0
weight_of-nil n w = sum_below-zero n (λ i. 0) (λ i l. refl)

-- what a loop over a set has added up: the sum and the weights of the rest are those of the set
pub record IsAdding (n : ℕ) (w : ℕ → ℕ) (set rest : List ℕ) (sum : ℕ) : Type 0 where
  pub rest_set : IsSet MAX_STRIPS rest
  pub all : sum + weight_of n w rest ≡ weight_of n w set

-- where it starts
pub IsAdding-start : (n : ℕ) (w : ℕ → ℕ) (set rest : List ℕ) (sum : ℕ) → IsSet MAX_STRIPS set → rest ≡ set → sum ≡ 0 → IsAdding n w set rest sum
IsAdding-start n w set rest sum is_set all none = record {
  rest_set = rw all is_set;
  all = omega (arith, none, ap (λ (xs : List ℕ). weight_of n w xs) all);
}

-- one step of it
pub IsAdding-step : (n : ℕ) (w : ℕ → ℕ) (set rest : List ℕ) (sum i : ℕ) → IsAdding n w set (i ∷ rest) sum → (n ≤ i → w i ≡ 0)
    → IsAdding n w set rest (sum + w i)
IsAdding-step n w set rest sum i h past = record {
  rest_set = IsSet-tail MAX_STRIPS i rest h.rest_set;
  all = omega (arith, h.all, weight_of-member n i w rest (head_once i rest h.rest_set.rises) past);
}

-- where it ends
pub IsAdding-end : (n : ℕ) (w : ℕ → ℕ) (set rest : List ℕ) (sum : ℕ) → IsAdding n w set rest sum → rest ≡ [] → sum ≡ weight_of n w set
IsAdding-end n w set rest sum h none =
    omega (arith, h.all, weight_of-nil n w, ap (λ (xs : List ℕ). weight_of n w xs) none)

-- on the way the sum and the next weight are within the sum of all
pub IsAdding-within : (n : ℕ) (w : ℕ → ℕ) (set rest : List ℕ) (sum i : ℕ) → IsAdding n w set (i ∷ rest) sum → (n ≤ i → w i ≡ 0)
    → sum + w i ≤ weight_of n w set
IsAdding-within n w set rest sum i h past = omega (arith, (IsAdding-step n w set rest sum i h past).all)

-- a strip of the instance has an area within the limit
pub area-le : (J : Orbit) (strips : List Strip) (i : ℕ) → IsInstance J → strips ≡ J.strips → i < length strips → (strip_in strips i).area ≤ MAX_STRIP_AREA
area-le J strips i h same l = rw same (h.limits.each_strip i no_strip (omega (arith, l, ap (λ (ss : List Strip). length ss) same))).small

-- a strip past the end adds nothing to a request
pub area_for-past : (J : Orbit) (r i : ℕ) → length J.strips ≤ i → area_for r (strip_at J i) ≡ 0
area_for-past J r i past = ap (λ (s : Strip). area_for r s) (get_or_past J.strips i no_strip past) ∙ nothing (0 == r)
  where
    nothing : (b : Bool) → ◌≡◌ {A = ℕ} (if b then 0 else 0) 0
    nothing true = refl
    nothing false = refl

-- it has no area
pub area_at-past : (J : Orbit) (i : ℕ) → length J.strips ≤ i → area_at J i ≡ 0
area_at-past J i past = ap (λ (s : Strip). s.area) (get_or_past J.strips i no_strip past)

-- and no value
pub strip_value-past : (J : Orbit) (i : ℕ) → length J.strips ≤ i → strip_value J i ≡ 0
strip_value-past J i past = ap (λ (a : ℕ). 20 * gain_at J (request_at J i) * a) (area_at-past J i past) ∙ mul-zero (20 * gain_at J (request_at J i))

-- no set acquires more of a request than its area
pub set_area-le : (J : Orbit) (set : List ℕ) (r : ℕ) → set_area J set r ≤ whole_area J r
set_area-le J set r = omega (arith, area_where-apart J r (λ i. has i set) (λ i. false) (λ i t. absurd (true≢false (sym t))))
