-- The areas of a path's strips and of those in its reach, by sets of strips.
use Rattle.std.proofs.Common.{◌≡◌, ℕ, ◌+◌, ◌*◌, Bool, true, false, not, ◌&&◌, ◌||◌, nat_lt, nat_le, if◌then◌else◌, List, length, refl, sym, ◌∙◌, ap, ap₂, inl, inr, true≢false, arith}
use Rattle.std.proofs.lemmas.Bool.{or_cases, and_parts, not-true}
use Rattle.label.proofs.SetDifferences.{area_where_same}
use Rattle.label.specs.Outlines.{reaches_strip}
use Rattle.label.specs.Gaining.{set_area, set_gain, set_room}
use Rattle.strip_model.proofs.Shares.{gain_with_same}
use Rattle.strip_model.proofs.Reaching.{area_in-area_where}
use Rattle.strip_model.proofs.Sums.{sum_below_same, sum_below-add}
use Rattle.strip_model.specs.Directed.{strip_of, has, has_strip}
use Rattle.strip_model.specs.Gain.{area_for, area_in, gain_in}
use Rattle.strip_model.specs.Orbit.{Orbit, strip_at, late_at}
use Rattle.strip_model.specs.Reach.{reaches, area_where, area_reached}
use Rattle.strip_model.specs.Starts.{Root, arrive, place_after, IsInTime}
use Rattle.strip_set.proofs.Members.{has_strip-directions}

-- what is in the reach of a path is of a strip that the path lacks
pub reaches-new : (J : Orbit) (path : List ℕ) (y : ℕ) → reaches J path y ≡ true → has_strip (strip_of y) path ≡ false
unfolding reaches
reaches-new J path y h =
    let rest = (and_parts (nat_lt (strip_of y) (length J.strips)) (not (has_strip (strip_of y) path) && nat_le (arrive J (place_after J Root path) y) (late_at J y)) h).1 in
    not-true (has_strip (strip_of y) path) (and_parts (not (has_strip (strip_of y) path)) (nat_le (arrive J (place_after J Root path) y) (late_at J y)) rest).0

-- the same of strips
pub reaches_strip-new : (J : Orbit) (path : List ℕ) (i : ℕ) → reaches_strip J path i ≡ true → has_strip i path ≡ false
reaches_strip-new J path i h =
    let forth : strip_of (2 * i) ≡ i = omega arith in
    let back : strip_of (2 * i + 1) ≡ i = omega arith in
    elim (or_cases (reaches J path (2 * i)) (reaches J path (2 * i + 1)) h) [
      | inl t ↦ ap (λ (j : ℕ). has_strip j path) (sym forth) ∙ reaches-new J path (2 * i) t
      | inr t ↦ ap (λ (j : ℕ). has_strip j path) (sym back) ∙ reaches-new J path (2 * i + 1) t
    ]

-- the strips of a set that has the reach are those in reach
pub reaches_strip-set : (J : Orbit) (path reach : List ℕ) → ((y : ℕ) → has y reach ≡ reaches J path y)
    → (i : ℕ) → has_strip i reach ≡ reaches_strip J path i
reaches_strip-set J path reach same i = has_strip-directions i reach ∙ ap₂ (λ (p q : Bool). p || q) (same (2 * i)) (same (2 * i + 1))

-- the area of a path's strips
pub set_area-path : (J : Orbit) (r : ℕ) (path visited : List ℕ) → IsInTime J path → ((i : ℕ) → has i visited ≡ has_strip i path)
    → set_area J visited r ≡ area_in J r path
set_area-path J r path visited h same =
    area_where_same J r (λ i. has i visited) (λ i. has_strip i path) same ∙ sym (area_in-area_where J r path h.exist h.distinct)

-- the area in reach
pub set_area-reach : (J : Orbit) (r : ℕ) (path reach : List ℕ) → ((i : ℕ) → has i reach ≡ reaches_strip J path i)
    → set_area J reach r ≡ area_reached J r path
unfolding area_reached
set_area-reach J r path reach same = area_where_same J r (λ i. has i reach) (λ i. reaches J path (2 * i) || reaches J path (2 * i + 1)) same

-- the area of two tests that no strip passes both
pub area_where-either : (J : Orbit) (r : ℕ) (p q : ℕ → Bool) → ((i : ℕ) → q i ≡ true → p i ≡ false)
    → area_where J r (λ i. p i || q i) ≡ area_where J r p + area_where J r q
area_where-either J r p q apart =
    let w : ℕ → ℕ = λ i. area_for r (strip_at J i) in
    sum_below_same (length J.strips) (λ i. if p i || q i then w i else 0) (λ i. (if p i then w i else 0) + (if q i then w i else 0))
    (λ i l. one (p i) (q i) (w i) (apart i))
    ∙ sum_below-add (length J.strips) (λ i. if p i then w i else 0) (λ i. if q i then w i else 0)
  where
    one : (b c : Bool) (w : ℕ) → (c ≡ true → b ≡ false) → (if b || c then w else 0) ≡ (if b then w else 0) + (if c then w else 0)
    one true true w h = absurd (true≢false (h refl))
    one true false w h = omega arith
    one false c w h = omega arith

-- what is in reach and stands in neither path is what is in reach, where that is apart from both
pub set_room-is : (J : Orbit) (r : ℕ) (path b a reach : List ℕ) → ((i : ℕ) → has i reach ≡ reaches_strip J path i)
    → ((i : ℕ) → has i reach ≡ true → has i b ≡ false) → ((i : ℕ) → has i reach ≡ true → has i a ≡ false)
    → set_room J b a reach r ≡ area_reached J r path
set_room-is J r path b a reach same b_apart a_apart =
    area_where_same J r (λ i. (has i reach && not (has i b)) && not (has i a)) (λ i. has i reach)
    (λ i. stays (has i reach) (has i b) (has i a) (b_apart i) (a_apart i))
    ∙ set_area-reach J r path reach same
  where
    stays : (t b a : Bool) → (t ≡ true → b ≡ false) → (t ≡ true → a ≡ false) → ((t && not b) && not a) ≡ t
    stays false b a hb ha = refl
    stays true false false hb ha = refl
    stays true false true hb ha = absurd (true≢false (ha refl))
    stays true true a hb ha = absurd (true≢false (hb refl))

-- what a path's strips gain
pub set_gain-path : (J : Orbit) (path visited : List ℕ) → IsInTime J path → ((i : ℕ) → has i visited ≡ has_strip i path)
    → set_gain J visited ≡ gain_in J path
set_gain-path J path visited h same =
    gain_with_same J (set_area J visited) (λ r. area_in J r path) (λ r l. set_area-path J r path visited h same)
