-- One look after another.
use Rattle.std.proofs.Common.{◌≡◌, ◌↔◌, ℕ, ◌+◌, ◌<◌, ◌≤◌, ◌||◌, if◌then◌else◌, List, [], ◌++◌, Option, None, Some, All, IfSome, length, get_or, slice_get, refl, sym, ◌∙◌, ap, subst, inl, inr, le_trans, le_of_eq, arith}
use Rattle.std.proofs.lemmas.Bool.{cases_lt}
use Rattle.std.proofs.lemmas.Option.{get_or_from_slice_get, slice_get_within, slice_get-get_or, same_Some}
use Rattle.std.specs.List.{Contains}
use Rattle.std.specs.List.Sorted.{IsNonDecreasingBy}
use Rattle.joiner.proofs.Tipping.{meet_gain-set}
use Rattle.joiner.specs.Entries.{root, IsSound, IsOfLast, Covered, IsNewOf}
use Rattle.joiner.specs.Offers.{Covers, IsKept}
use Rattle.joiner.specs.Pairs.{place_of}
use Rattle.joiner.specs.Tips.{IsWithin, strips_at, HasTime, meet_gain}
use Rattle.joiner.specs.declared.entry.Entry.{Entry}
use Rattle.joiner.specs.declared.pair.Pair.{Pair}
use Rattle.joiner.specs.declared.tip.Tip.{Tip}
use Rattle.label.proofs.Values.{set_gain-both, set_value-le}
use Rattle.label.specs.Gaining.{set_value, strip_value}
use Rattle.strip_model.proofs.Sums.{sum_below-zero}
use Rattle.strip_model.proofs.Words.{has-append}
use Rattle.strip_model.specs.Directed.{has}
use Rattle.strip_model.specs.Horizon.{horizon_of}
use Rattle.strip_model.specs.IsInstance.{IsInstance}
use Rattle.strip_model.specs.Orbit.{Orbit}
use Rattle.strip_model.specs.declared.limits.TheConstants.{MAX_TOTAL_GAIN}

-- ---- values

-- two that meet gain at most their values
pub meet_gain-values : (J : Orbit) (f w : Entry) → IsSound J f → IsSound J w → meet_gain J f.tip w.tip ≤ f.value + w.value
meet_gain-values J f w hf hw =
    let fs = strips_at f.tip in
    let ws = strips_at w.tip in
    let same : (i : ℕ) → has i (fs ++ ws) ≡ (has i fs || has i ws) = λ i. has-append i fs ws in
    below (meet_gain J f.tip w.tip) (set_value J fs) (set_value J ws) f.value w.value hf.value hw.value
    (le_trans (le_of_eq (sym (meet_gain-set J f.tip w.tip fs ws (fs ++ ws) refl refl same))) (set_gain-both J fs ws (fs ++ ws) same))
  where
    below : (g s t v u : ℕ) → v ≡ s → u ≡ t → g ≤ s + t → g ≤ v + u
    below g s t v u e f h = omega arith

-- a value is small
pub value-le : (J : Orbit) → IsInstance J → (e : Entry) → IsSound J e → e.value ≤ MAX_TOTAL_GAIN
value-le J inst e h = le_trans (le_of_eq h.value) (set_value-le J (strips_at e.tip) inst)

-- the root's entry is sound
pub IsSound-root : (J : Orbit) → IsSound J root
IsSound-root J = record {
  within = tt;
  over = tt;
  value = sym (sum_below-zero (length J.strips) (λ i. if has i [] then strip_value J i else 0) (λ i l. refl));
}

-- ---- what is covered

-- what was settled by the values is covered
pub Covered-settled : (J : Orbit) (floor : ℕ) (best : Option Pair) (f w : Entry) (most : ℕ) → IsSound J f → IsSound J w → f.value + w.value ≤ most
    → ((gain i j : ℕ) → gain ≤ most → Covers floor best gain i j) → Covered J floor best f w
Covered-settled J floor best f w most hf hw within settled meets =
    settled (meet_gain J f.tip w.tip) (place_of f.place) (place_of w.place) (le_trans (meet_gain-values J f w hf hw) within)

-- what was covered stays so
pub Covered-kept : (J : Orbit) (floor : ℕ) (before later : Option Pair) (f w : Entry) → IsKept floor before later → Covered J floor before f w → Covered J floor later f w
Covered-kept J floor before later f w kept covered meets = kept (meet_gain J f.tip w.tip) (place_of f.place) (place_of w.place) (covered meets)

-- ---- what is new

-- among more
pub IsNewOf-among : (J : Orbit) (f : Entry) (these those : Entry → Type 0) (before later : Option Pair) → ((w : Entry) → these w → those w)
    → IsNewOf J f these before later → IsNewOf J f those before later
IsNewOf-among J f these those before later more (inl same) = inl same
IsNewOf-among J f these those before later more (inr h) = inr (h.0, h.1, more h.0 h.2, h.3, h.4)

-- one step after another
pub IsNewOf-then : (J : Orbit) (f : Entry) (these : Entry → Type 0) (before between later : Option Pair) → IsNewOf J f these before between
    → IsNewOf J f these between later → IsNewOf J f these before later
IsNewOf-then J f these before between later first (inl same) = subst (λ (o : Option Pair). IsNewOf J f these before o) (sym same) first
IsNewOf-then J f these before between later first (inr h) = inr h

-- ---- elements of groups

-- what holds of all holds of the one at a place
pub All-at : {X : Type 0} (P : X → Type 0) (xs : List X) (k : ℕ) (x : X) → All P xs → slice_get xs k ≡ Some x → P x
All-at P xs k x h at = subst P (get_or_from_slice_get xs k x x at) (h k x (slice_get_within xs k x at))

-- an element has a place
pub place_of_element : {X : Type 0} (xs : List X) (x : X) (k : ℕ) → k < length xs → get_or xs k x ≡ x → slice_get xs k ≡ Some x
place_of_element xs x k l is = slice_get-get_or xs k x l ∙ ap (λ y. Some y) is

pub element_of_place : {X : Type 0} (xs : List X) (x : X) (k : ℕ) → slice_get xs k ≡ Some x → Contains xs x
element_of_place xs x k at = (k, slice_get_within xs k x at, get_or_from_slice_get xs k x x at)

-- what is over later than the time that is left can't be met
pub Covered-late : (J : Orbit) (floor : ℕ) (best : Option Pair) (f w : Entry) (y lead : ℕ) → IsSound J w → IsOfLast y w.tip
    → ((t : Tip) → t.last ≡ y → IsWithin J t → (HasTime J f.tip (Some t) ↔ (lead + t.over ≤ horizon_of J)))
    → horizon_of J < lead + w.over → Covered J floor best f w
Covered-late J floor best f w y lead h of time late meets = absurd (clash w.tip w.over h.within h.over of meets.in_time late)
  where
    past : (M l o u : ℕ) → o ≡ u → l + u ≤ M → M < l + o → ⊥
    past M l o u same h late = omega arith

    clash : (o : Option Tip) (over : ℕ) → IfSome o (IsWithin J) → IfSome o (λ t. over ≡ t.over) → IsOfLast y o → HasTime J f.tip o
        → horizon_of J < lead + over → ⊥
    clash None over within same of has late = of
    clash (Some t) over within same of has late = past (horizon_of J) lead over t.over same ((time t of within).0 has) late

-- the rest of a group is over no earlier
pub late_rest : (ws : List Entry) (i k : ℕ) (w v : Entry) (lead horizon : ℕ) → IsNonDecreasingBy (λ w. w.over) ws → w ≡ get_or ws i w → i ≤ k
    → slice_get ws k ≡ Some v → horizon < lead + w.over → horizon < lead + v.over
late_rest ws i k w v lead horizon rising is after at late =
    sum lead horizon w.over (get_or ws i w).over (get_or ws k w).over v.over (ap (λ (e : Entry). e.over) is)
    (ap (λ (e : Entry). e.over) (get_or_from_slice_get ws k v w at)) (rising i k w after (slice_get_within ws k v at)) late
  where
    sum : (l m a b c d : ℕ) → a ≡ b → c ≡ d → b ≤ c → m < l + a → m < l + d
    sum l m a b c d e f h late = omega arith

-- one more place of a group was looked at
pub covered_more : (J : Orbit) (floor : ℕ) (before later : Option Pair) (f x : Entry) (ws : List Entry) (i : ℕ) → IsKept floor before later
    → x ≡ get_or ws i x → ((k : ℕ) (w : Entry) → k < i → slice_get ws k ≡ Some w → Covered J floor before f w) → Covered J floor later f x
    → (k : ℕ) (w : Entry) → k < i + 1 → slice_get ws k ≡ Some w → Covered J floor later f w
covered_more J floor before later f x ws i kept is so_far here k w l at =
    elim (cases_lt k i) [
      | inl earlier ↦ Covered-kept J floor before later f w kept (so_far k w earlier at)
      | inr now ↦
          let same : k ≡ i = omega arith in
          subst (λ (e : Entry). Covered J floor later f e) (is ∙ ap (λ (n : ℕ). get_or ws n x) (sym same) ∙ get_or_from_slice_get ws k w x at) here
    ]

-- there is one at a place
pub one_at : {X : Type 0} (xs : List X) (i k : ℕ) (x y : X) → i ≡ k → slice_get xs i ≡ Some x → slice_get xs k ≡ Some y → y ≡ x
one_at xs i k x y same at also = same_Some y x (sym also ∙ ap (λ (n : ℕ). slice_get xs n) (sym same) ∙ at)
