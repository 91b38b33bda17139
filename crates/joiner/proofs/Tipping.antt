-- Tips join exactly as their paths do, and gain as much.
use Rattle.std.proofs.Common.{◌≡◌, ℕ, ◌+◌, ◌≤◌, Bool, true, false, ◌&&◌, ◌||◌, if◌then◌else◌, List, [], ◌++◌, length, reverse, Option, None, Some, refl, sym, ◌∙◌, ap, ap₂, subst, inl, inr, arith}
use Rattle.std.proofs.lemmas.Bool.{cases_Bool, and_from, both_ways}
use Rattle.joiner.proofs.Halving.{IsHalf-root, MayJoin-joins, Joins-may}
use Rattle.joiner.specs.Halves.{IsHalf, LeaveTime, MayJoin}
use Rattle.joiner.specs.Tips.{waits_for, IsTipAt, strips_at, twins_at, HasTime, Meets, meet_gain}
use Rattle.joiner.specs.declared.tip.Tip.{Tip}
use Rattle.strip_model.proofs.Orders.{IsFeasibleOrder-earliest}
use Rattle.strip_model.proofs.Reaching.{area_in-area_where}
use Rattle.strip_model.proofs.Shares.{gain_with_same}
use Rattle.strip_model.proofs.Starts.{gain_of-earliest}
use Rattle.strip_model.proofs.Sums.{sum_below_same}
use Rattle.strip_model.proofs.Words.{has_strip-append, has_strip-reverse}
use Rattle.strip_model.specs.Directed.{has, has_strip}
use Rattle.strip_model.specs.Gain.{area_for, area_in, gain_with}
use Rattle.strip_model.specs.Horizon.{horizon_of}
use Rattle.strip_model.specs.IsInstance.{IsInstance}
use Rattle.strip_model.specs.Join.{Joins, join_gain}
use Rattle.strip_model.specs.Mirror.{mirror_of}
use Rattle.strip_model.specs.Orbit.{Orbit, strip_at, duration_at, manoeuvre_at}
use Rattle.strip_model.specs.Reach.{needs, area_where}
use Rattle.strip_model.specs.Side.{facing}
use Rattle.strip_model.specs.Starts.{Place, Root, After, place_after}
use Rattle.strip_model.specs.declared.end.End.{End}
use Rattle.strip_model.specs.declared.end.End.TheVariants.{Forward, Backward}

-- ---- a tip or a root

pub half_of_tip : (J : Orbit) (e : End) (path : List ℕ) (o : Option Tip) → IsTipAt J e path o → IsHalf (facing J e) path
half_of_tip J e path None h = subst (λ (xs : List ℕ). IsHalf (facing J e) xs) (sym h) (IsHalf-root (facing J e))
half_of_tip J e path (Some t) h = h.half

pub strips_of_tip : (J : Orbit) (e : End) (path : List ℕ) (o : Option Tip) → IsTipAt J e path o → (i : ℕ) → has i (strips_at o) ≡ has_strip i path
strips_of_tip J e path None h i = ap (λ (xs : List ℕ). has_strip i xs) (sym h)
strips_of_tip J e path (Some t) h i = h.strips i

-- a root needs nothing
pub needs-root : (J : Orbit) (z : ℕ) → has z (needs J []) ≡ false
unfolding needs
needs-root J z = refl

-- and waits for nothing
waits_for-root : (J : Orbit) (e : End) (z : ℕ) → waits_for J e [] z ≡ false
waits_for-root J Forward z = needs-root J z
waits_for-root J Backward z = refl

pub twins_of_tip : (J : Orbit) (e : End) (path : List ℕ) (o : Option Tip) → IsTipAt J e path o → (z : ℕ) → has z (twins_at o) ≡ waits_for J e path z
twins_of_tip J e path None h z = sym (ap (λ (xs : List ℕ). waits_for J e xs z) h ∙ waits_for-root J e z)
twins_of_tip J e path (Some t) h z = h.twins z

-- ---- time

LeaveTime-first : (J : Orbit) (p : Place) → LeaveTime J Root p
LeaveTime-first J Root = tt
LeaveTime-first J (After t y) = tt

LeaveTime-second : (J : Orbit) (q : Place) → LeaveTime J q Root
LeaveTime-second J Root = tt
LeaveTime-second J (After s x) = tt

along : (J : Orbit) (q p u v : Place) → u ≡ q → v ≡ p → LeaveTime J q p → LeaveTime J u v
along J q p u v e f h = subst (λ (w : Place). LeaveTime J u w) (sym f) (subst (λ (w : Place). LeaveTime J w p) (sym e) h)

LeaveTime-tips : (J : Orbit) (pf pb : List ℕ) (f b : Option Tip) → IsTipAt J Forward pf f → IsTipAt J Backward pb b → HasTime J f b
    → LeaveTime J (place_after J Root pf) (place_after (mirror_of J) Root pb)
LeaveTime-tips J pf pb None b hf hb time =
    let p = place_after (mirror_of J) Root pb in
    along J Root p (place_after J Root pf) p (ap (λ (xs : List ℕ). place_after J Root xs) hf) refl (LeaveTime-first J p)
LeaveTime-tips J pf pb (Some f) None hf hb time =
    let q = place_after J Root pf in
    along J q Root q (place_after (mirror_of J) Root pb) refl (ap (λ (xs : List ℕ). place_after (mirror_of J) Root xs) hb) (LeaveTime-second J q)
LeaveTime-tips J pf pb (Some f) (Some b) hf hb time =
    along J (After hf.start f.last) (After hb.start b.last) (place_after J Root pf) (place_after (mirror_of J) Root pb) hf.at hb.at
    (sum hf.start (duration_at J f.last) f.over (manoeuvre_at J f.last b.last) hb.start (duration_at J b.last) b.over (horizon_of J) hf.over hb.over time)
  where
    sum : (s d u n t e v M : ℕ) → u ≡ s + d → v ≡ t + e → u + n + v ≤ M → s + d + n + e + t ≤ M
    sum s d u n t e v M over other h = omega arith

HasTime-tips : (J : Orbit) (pf pb : List ℕ) (f b : Option Tip) → IsTipAt J Forward pf f → IsTipAt J Backward pb b
    → LeaveTime J (place_after J Root pf) (place_after (mirror_of J) Root pb) → HasTime J f b
HasTime-tips J pf pb None None hf hb time = tt
HasTime-tips J pf pb None (Some b) hf hb time = tt
HasTime-tips J pf pb (Some f) None hf hb time = tt
HasTime-tips J pf pb (Some f) (Some b) hf hb time =
    sum hf.start (duration_at J f.last) f.over (manoeuvre_at J f.last b.last) hb.start (duration_at J b.last) b.over (horizon_of J) hf.over hb.over
    (along J (place_after J Root pf) (place_after (mirror_of J) Root pb) (After hf.start f.last) (After hb.start b.last) (sym hf.at) (sym hb.at) time)
  where
    sum : (s d u n t e v M : ℕ) → u ≡ s + d → v ≡ t + e → s + d + n + e + t ≤ M → u + n + v ≤ M
    sum s d u n t e v M over other h = omega arith

-- ---- the law

-- paths of tips that meet keep the law of joins, and the other way
pub MayJoin-tips : (J : Orbit) (pf pb : List ℕ) (f b : Option Tip) → IsTipAt J Forward pf f → IsTipAt J Backward pb b → Meets J f b → MayJoin J pf pb
MayJoin-tips J pf pb f b hf hb meets = record {
  apart = λ i t. lacks (has i (strips_at f)) (has i (strips_at b)) (has_strip i pf) (has_strip i pb)
      (strips_of_tip J Forward pf f hf i) (strips_of_tip J Backward pb b hb i) (meets.apart i) t;
  needs_met = λ z. sym (twins_of_tip J Forward pf f hf z) ∙ meets.twins z ∙ twins_of_tip J Backward pb b hb z;
  in_time = LeaveTime-tips J pf pb f b hf hb meets.in_time;
}
  where
    lacks : (p q s t : Bool) → p ≡ s → q ≡ t → (p && q) ≡ false → s ≡ true → t ≡ false
    lacks p q s t e g h st =
        elim (cases_Bool t) [
          | inl both ↦ absurd (both_ways (p && q) h (and_from p q (e ∙ st) (g ∙ both)))
          | inr none ↦ none
        ]

pub Meets-tips : (J : Orbit) (pf pb : List ℕ) (f b : Option Tip) → IsTipAt J Forward pf f → IsTipAt J Backward pb b → MayJoin J pf pb → Meets J f b
Meets-tips J pf pb f b hf hb may = record {
  apart = λ i. not_both (has i (strips_at f)) (has i (strips_at b)) (has_strip i pf) (has_strip i pb)
      (strips_of_tip J Forward pf f hf i) (strips_of_tip J Backward pb b hb i) (may.apart i);
  twins = λ z. twins_of_tip J Forward pf f hf z ∙ may.needs_met z ∙ sym (twins_of_tip J Backward pb b hb z);
  in_time = HasTime-tips J pf pb f b hf hb may.in_time;
}
  where
    not_both : (p q s t : Bool) → p ≡ s → q ≡ t → (s ≡ true → t ≡ false) → (p && q) ≡ false
    not_both true q s t e g h = g ∙ h (sym e)
    not_both false q s t e g h = refl

pub Meets-joins : (J : Orbit) → IsInstance J → (pf pb : List ℕ) (f b : Option Tip) → IsTipAt J Forward pf f → IsTipAt J Backward pb b
    → Joins J pf pb → Meets J f b
Meets-joins J inst pf pb f b hf hb joins =
    Meets-tips J pf pb f b hf hb
    (MayJoin-joins J inst pf pb (half_of_tip J Forward pf f hf) (half_of_tip J Backward pb b hb) joins)

pub Joins-meets : (J : Orbit) → IsInstance J → (pf pb : List ℕ) (f b : Option Tip) → IsTipAt J Forward pf f → IsTipAt J Backward pb b
    → Meets J f b → Joins J pf pb
Joins-meets J inst pf pb f b hf hb meets =
    Joins-may J inst pf pb (half_of_tip J Forward pf f hf) (half_of_tip J Backward pb b hb) (MayJoin-tips J pf pb f b hf hb meets)

-- ---- the gain

area_where_same : (J : Orbit) (r : ℕ) (p q : ℕ → Bool) → ((i : ℕ) → p i ≡ q i) → area_where J r p ≡ area_where J r q
area_where_same J r p q same =
    sum_below_same (length J.strips) (λ i. if p i then area_for r (strip_at J i) else 0) (λ i. if q i then area_for r (strip_at J i) else 0)
    (λ i l. ap (λ (t : Bool). if t then area_for r (strip_at J i) else 0) (same i))

-- what the joined strips of both gain
pub meet_gain-set : (J : Orbit) (f b : Option Tip) (fs bs both : List ℕ) → fs ≡ strips_at f → bs ≡ strips_at b
    → ((i : ℕ) → has i both ≡ (has i fs || has i bs)) → gain_with J (λ r. area_where J r (λ i. has i both)) ≡ meet_gain J f b
meet_gain-set J f b fs bs both front back same =
    let either : ℕ → Bool = λ i. has i (strips_at f) || has i (strips_at b) in
    gain_with_same J (λ r. area_where J r (λ i. has i both)) (λ r. area_where J r either)
    (λ r l. area_where_same J r (λ i. has i both) either
    (λ i. same i ∙ ap₂ (λ (xs ys : List ℕ). has i xs || has i ys) front back))

-- what joins gains what its strips gain
pub meet_gain-joins : (J : Orbit) (pf pb : List ℕ) (f b : Option Tip) → IsTipAt J Forward pf f → IsTipAt J Backward pb b
    → Joins J pf pb → meet_gain J f b ≡ join_gain J pf pb
meet_gain-joins J pf pb f b hf hb joins =
    let xs = pf ++ reverse pb in
    let order = IsFeasibleOrder-earliest J xs joins in
    let both : ℕ → Bool = λ i. has i (strips_at f) || has i (strips_at b) in
    gain_with_same J (λ r. area_where J r both) (λ r. area_in J r xs)
    (λ r l. area_where_same J r both (λ i. has_strip i xs) (λ i. stands i) ∙ sym (area_in-area_where J r xs order.in_time.exist order.in_time.distinct))
    ∙ sym (gain_of-earliest J xs)
  where
    stands : (i : ℕ) → (has i (strips_at f) || has i (strips_at b)) ≡ has_strip i (pf ++ reverse pb)
    stands i =
        ap (λ (t : Bool). t || has i (strips_at b)) (strips_of_tip J Forward pf f hf i)
        ∙ ap (λ (t : Bool). has_strip i pf || t) (strips_of_tip J Backward pb b hb i ∙ sym (has_strip-reverse i pb))
        ∙ sym (has_strip-append i pf (reverse pb))
