-- The first place over a floor.
use Rattle.std.proofs.Common.{◌≡◌, ◌⊎◌, Bool, true, false, inl, inr, ℕ, zero, suc, ◌+◌, ◌<◌, ◌≤◌, List, [], Option, Some, length, slice_get, sym, ap, subst, arith}
use Rattle.std.proofs.lemmas.Bool.{cases_lt}
use Rattle.std.specs.Bool.{OnTrue, OnFalse}
use Rattle.joiner.proofs.Looking.{one_at}
use Rattle.joiner.proofs.Represented.{element_there}
use Rattle.joiner.specs.Pairs.{path_at, HasOver, HasNoneOver, NoneAbove, IsFirstOver}
use Rattle.label.specs.Labels.{path_of}
use Rattle.label.specs.declared.label.Label.{Label}
use Rattle.strip_model.specs.Orbit.{Orbit}

-- none of the first labels joins over the floor, nor does the root
pub record AreNotOver (J : Orbit) (fs bs : List Label) (floor n : ℕ) : Type 0 where
  pub root : HasNoneOver J [] bs floor
  pub each : (k : ℕ) (label : Label) → k < n → slice_get fs k ≡ Some label → HasNoneOver J label.path.items bs floor

module _ (J : Orbit) (fs bs : List Label) (floor : ℕ) where
  -- and none with one more
  pub AreNotOver-more : (n : ℕ) (label : Label) → slice_get fs n ≡ Some label → HasNoneOver J label.path.items bs floor
      → AreNotOver J fs bs floor n → AreNotOver J fs bs floor (n + 1)
  AreNotOver-more n label at none h = record { root = h.root; each = λ k l within there. each k l within there (cases k n) }
    where
      cases : (k n : ℕ) → (k < n) ⊎ (n ≤ k)
      cases k n = cases_lt k n

      each : (k : ℕ) (l : Label) → k < n + 1 → slice_get fs k ≡ Some l → (k < n) ⊎ (n ≤ k) → HasNoneOver J l.path.items bs floor
      each k l within there (inl earlier) = h.each k l earlier there
      each k l within there (inr now) =
          let same : k ≡ n = omega (arith, within, now) in
          subst (λ (x : Label). HasNoneOver J x.path.items bs floor) (one_at fs k n l label same there at) none

  -- the path at a label's place
  path_of_label : (k : ℕ) (label : Label) → slice_get fs k ≡ Some label → path_at fs (suc k) ≡ label.path.items
  path_of_label k label at = ap (λ (o : Option Label). path_of o) at

  -- of these none does
  none_at : (n i : ℕ) → i ≤ n → n ≤ length fs → AreNotOver J fs bs floor n → HasNoneOver J (path_at fs i) bs floor
  none_at n zero l within h = h.root
  none_at n (suc k) l within h =
      let label = element_there fs k (omega (arith, l, within)) in
      subst (λ (path : List ℕ). HasNoneOver J path bs floor) (sym (path_of_label k label.0 label.1)) (h.each k label.0 l label.1)

  -- the label is the first
  pub IsFirstOver-label : (n : ℕ) (label : Label) → slice_get fs n ≡ Some label → n < length fs → HasOver J label.path.items bs floor
      → AreNotOver J fs bs floor n → IsFirstOver J fs bs floor (record { forward = Some n })
  IsFirstOver-label n label at within over h = record {
    there = within;
    some = subst (λ (path : List ℕ). HasOver J path bs floor) (sym (path_of_label n label at)) over;
    none_before = λ i l. none_at n i (omega (arith, l)) (omega (arith, within)) h;
  }

  -- there is none
  pub NoneAbove-all : (n : ℕ) → length fs ≤ n → AreNotOver J fs bs floor n → NoneAbove J fs bs floor
  NoneAbove-all n past h i l = none_at (length fs) i l (omega arith) (record { root = h.root; each = λ k label within at. h.each k label (omega (arith, within, past)) at })

-- what a test says by another fact
pub OnTrue-from : (b : Bool) (P Q : Type 0) → OnTrue b P → (P → Q) → OnTrue b Q
OnTrue-from true P Q h f = f h
OnTrue-from false P Q h f = tt

pub OnFalse-from : (b : Bool) (P Q : Type 0) → OnFalse b P → (P → Q) → OnFalse b Q
OnFalse-from true P Q h f = tt
OnFalse-from false P Q h f = f h
