-- What comes after a path is in its reach.
use Rattle.std.proofs.Common.{◌≡◌, ℕ, ◌+◌, ◌*◌, ◌/◌, ◌<◌, ◌≤◌, ◌≢◌, ◌⊎◌, max, ◌==◌, Bool, true, false, not, ◌&&◌, ◌||◌, nat_lt, nat_le, if◌then◌else◌, List, [], ◌∷◌, ◌++◌, length, refl, sym, ◌∙◌, ap, subst, inl, inr, le_trans, true≢false, arith}
use Rattle.std.proofs.lemmas.Bool.{and_from, or_cases, or_left, or_right, or_parts, lt-ltb, le-leb, eqb-false, not_from_false, both_ways}
use Rattle.std.specs.Prelude.{⊤}
use Rattle.strip_model.proofs.Distinct.{sum_by_distinct}
use Rattle.strip_model.proofs.Starts.{arrive_sooner, Fits-append_parts}
use Rattle.strip_model.proofs.Sums.{sum_below-le-sum_below, sum_below-add, sum_by-sum_below, if_at_most}
use Rattle.strip_model.proofs.Words.{Apart-parts, has_cons_cases, has_strip-append, has_strip-from_has, has-from_has_strip, StripsExist-at, StripsExist-append_parts}
use Rattle.strip_model.specs.Directed.{strip_of, has, has_strip}
use Rattle.strip_model.specs.Gain.{area_for, whole_area, area_in}
use Rattle.strip_model.specs.IsInstance.{IsInstance}
use Rattle.strip_model.specs.Orbit.{Orbit, no_strip, strip_at, early_at, late_at, duration_at, manoeuvre_at}
use Rattle.strip_model.specs.Plan.{StripsExist, StripsDistinct}
use Rattle.strip_model.specs.Reach.{reaches, area_where, area_reached}
use Rattle.strip_model.specs.Starts.{Place, Root, After, ready, arrive, Fits, IsInTime, place_after}

-- a detour by a third strip, with its acquisition, saves no time
pub manoeuvre_at-detour : (J : Orbit) (x y z : ℕ) → IsInstance J
    → strip_of x < length J.strips → strip_of y < length J.strips → strip_of z < length J.strips
    → strip_of x ≢ strip_of y → strip_of y ≢ strip_of z → strip_of x ≢ strip_of z
    → manoeuvre_at J x z ≤ manoeuvre_at J x y + duration_at J y + manoeuvre_at J y z
manoeuvre_at-detour J x y z h lx ly lz xy yz xz =
    h.shortcut.at_each x y z (within x lx) (within y ly) (within z lz) (record { first_second = xy; second_third = yz; first_third = xz })
  where
    within : (k : ℕ) → strip_of k < length J.strips → k < J.table.size
    within k l = omega (arith, h.table_size, l)

-- the place is of a strip that exists and doesn't stand in the list
abbrev IsAwayFrom : Orbit → Place → List ℕ → Type 0
IsAwayFrom J Root c = ⊤
IsAwayFrom J (After s x) c = (strip_of x < length J.strips) × (has_strip (strip_of x) c ≡ false)

-- where a path has come to is away from what comes after it
IsAwayFrom-place_after : (J : Orbit) (q : Place) (a c : List ℕ) → StripsExist J a → StripsDistinct (a ++ c) → IsAwayFrom J q c
    → IsAwayFrom J (place_after J q a) c
IsAwayFrom-place_after J q [] c exist d away = away
IsAwayFrom-place_after J q (x ∷ a) c exist d away =
    let here = or_parts (has_strip (strip_of x) a) (has_strip (strip_of x) c) (sym (has_strip-append (strip_of x) a c) ∙ d.0) in
    IsAwayFrom-place_after J (After (arrive J q x) x) a c exist.1 d.1 (exist.0, here.1)

-- where the satellite goes by way of x, of a third strip, it is ready for y no sooner
ready-detour : (J : Orbit) → IsInstance J → (q : Place) (x y : ℕ) (c : List ℕ) → StripsExist J (x ∷ c) → StripsDistinct (x ∷ c)
    → IsAwayFrom J q (x ∷ c) → has y c ≡ true → ready J q y ≤ ready J (After (arrive J q x) x) y
ready-detour J inst Root x y c exist d away there = omega arith
ready-detour J inst (After s p) x y c exist d away there =
    let apart = or_parts (strip_of x == strip_of p) (has_strip (strip_of p) c) away.1 in
    let also : has_strip (strip_of y) c ≡ true = has_strip-from_has y c there in
    let other_x : strip_of x ≢ strip_of y = λ e. both_ways (has_strip (strip_of y) c) (ap (λ (i : ℕ). has_strip i c) (sym e) ∙ d.0) also in
    let other_p : strip_of p ≢ strip_of y = λ e. both_ways (has_strip (strip_of y) c) (ap (λ (i : ℕ). has_strip i c) (sym e) ∙ apart.1) also in
    let detour =
    manoeuvre_at-detour J p x y inst away.0 exist.0 (StripsExist-at J c y exist.1 there)
    (λ e. eqb-false (strip_of x) (strip_of p) apart.0 (sym e)) other_x other_p in
    sums s (duration_at J p) (manoeuvre_at J p x) (manoeuvre_at J p y) (early_at J x) (duration_at J x) (manoeuvre_at J x y) detour
  where
    sums : (s p px py early x xy : ℕ) → py ≤ px + x + xy → s + p + py ≤ max early (s + p + px) + x + xy
    sums s p px py early x xy detour = omega arith

-- what fits later could come at once
arrive-le-late_at : (J : Orbit) → IsInstance J → (q : Place) (c : List ℕ) → StripsExist J c → StripsDistinct c → Fits J q c → IsAwayFrom J q c
    → (y : ℕ) → has y c ≡ true → arrive J q y ≤ late_at J y
arrive-le-late_at J inst q [] exist d fits away y there = absurd (true≢false (sym there))
arrive-le-late_at J inst q (x ∷ c) exist d fits away y there =
    elim (has_cons_cases y x c there) [
      | inl same ↦ subst (λ (k : ℕ). arrive J q k ≤ late_at J k) (sym same) fits.0
      | inr later ↦
          le_trans (arrive_sooner J q (After (arrive J q x) x) y (ready-detour J inst q x y c exist d away later))
          (arrive-le-late_at J inst (After (arrive J q x) x) c exist.1 d.1 fits.1 (exist.0, d.0) y later)
    ]

-- whatever comes after a path in time is in its reach
pub completion_in_reach : (J : Orbit) → IsInstance J → (a c : List ℕ) → IsInTime J (a ++ c) → (y : ℕ) → has y c ≡ true → reaches J a y ≡ true
unfolding reaches
completion_in_reach J inst a c h y there =
    let exist = StripsExist-append_parts J a c h.exist in
    let d = Apart-parts a c h.distinct in
    let q = place_after J Root a in
    let in_time = arrive-le-late_at J inst q c exist.1 d.right (Fits-append_parts J Root a c h.fits).1
    (IsAwayFrom-place_after J Root a c exist.0 h.distinct tt) y there in
    and_from (nat_lt (strip_of y) (length J.strips)) (not (has_strip (strip_of y) a) && nat_le (arrive J q y) (late_at J y))
    (lt-ltb (strip_of y) (length J.strips) (StripsExist-at J c y exist.1 there))
    (and_from (not (has_strip (strip_of y) a)) (nat_le (arrive J q y) (late_at J y))
    (not_from_false (has_strip (strip_of y) a) (d.apart y there)) (le-leb (arrive J q y) (late_at J y) in_time))

-- ---- areas

-- the area in a list of distinct strips is that of the strips that stand in it
pub area_in-area_where : (J : Orbit) (r : ℕ) (xs : List ℕ) → StripsExist J xs → StripsDistinct xs
    → area_in J r xs ≡ area_where J r (λ i. has_strip i xs)
area_in-area_where J r xs = sum_by_distinct (length J.strips) (λ i. area_for r (strip_at J i)) xs

-- a test that passes more strips finds no less area
pub area_where-le : (J : Orbit) (r : ℕ) (p q : ℕ → Bool) → ((i : ℕ) → p i ≡ true → q i ≡ true) → area_where J r p ≤ area_where J r q
area_where-le J r p q more =
    sum_below-le-sum_below (length J.strips)
    (λ i. if p i then area_for r (strip_at J i) else 0) (λ i. if q i then area_for r (strip_at J i) else 0)
    (λ i l. no_less (p i) (q i) (area_for r (strip_at J i)) (more i))
  where
    no_less : (b c : Bool) (w : ℕ) → (b ≡ true → c ≡ true) → (if b then w else 0) ≤ (if c then w else 0)
    no_less b true w h = if_at_most b w
    no_less true false w h = absurd (true≢false (sym (h refl)))
    no_less false false w h = omega arith

-- two tests that pass no strip both find at most the whole area
pub area_where-apart : (J : Orbit) (r : ℕ) (p q : ℕ → Bool) → ((i : ℕ) → q i ≡ true → p i ≡ false)
    → area_where J r p + area_where J r q ≤ whole_area J r
area_where-apart J r p q apart =
    let w : ℕ → ℕ = λ i. area_for r (strip_at J i) in
    omega (
      arith,
      sum_below-add (length J.strips) (λ i. if p i then w i else 0) (λ i. if q i then w i else 0),
      sum_below-le-sum_below (length J.strips) (λ i. (if p i then w i else 0) + (if q i then w i else 0)) w (λ i l. one (p i) (q i) (w i) (apart i)),
      sum_by-sum_below (area_for r) J.strips no_strip,
    )
  where
    one : (b c : Bool) (w : ℕ) → (c ≡ true → b ≡ false) → (if b then w else 0) + (if c then w else 0) ≤ w
    one b false w h = omega (arith, if_at_most b w)
    one true true w h = absurd (true≢false (h refl))
    one false true w h = omega arith

-- a strip is in reach in one of its directions if a directed strip of it is
reaches-either : (J : Orbit) (a : List ℕ) (y : ℕ) → reaches J a y ≡ true
    → (reaches J a (2 * strip_of y) || reaches J a (2 * strip_of y + 1)) ≡ true
reaches-either J a y h =
    let first = reaches J a (2 * strip_of y) in
    let second = reaches J a (2 * strip_of y + 1) in
    elim (directions y) [
      | inl forth ↦ or_left first second (ap (λ (k : ℕ). reaches J a k) (sym forth) ∙ h)
      | inr back ↦ or_right first second (ap (λ (k : ℕ). reaches J a k) (sym back) ∙ h)
    ]
  where
    directions : (y : ℕ) → (y ≡ 2 * (y / 2)) ⊎ (y ≡ 2 * (y / 2) + 1)
    directions y = grind arith

-- a strip of which a direction is in reach doesn't stand in a list that is apart from what is in reach
reaches-apart : (J : Orbit) (b a : List ℕ) → ((y : ℕ) → reaches J a y ≡ true → has_strip (strip_of y) b ≡ false)
    → (i : ℕ) → (reaches J a (2 * i) || reaches J a (2 * i + 1)) ≡ true → has_strip i b ≡ false
reaches-apart J b a apart i h =
    let forth : strip_of (2 * i) ≡ i = omega arith in
    let back : strip_of (2 * i + 1) ≡ i = omega arith in
    elim (or_cases (reaches J a (2 * i)) (reaches J a (2 * i + 1)) h) [
      | inl t ↦ ap (λ (j : ℕ). has_strip j b) (sym forth) ∙ apart (2 * i) t
      | inr t ↦ ap (λ (j : ℕ). has_strip j b) (sym back) ∙ apart (2 * i + 1) t
    ]

-- whatever comes after a path in time has no more area of a request than is in reach
pub area_in-completion : (J : Orbit) → IsInstance J → (r : ℕ) (a c : List ℕ) → IsInTime J (a ++ c) → area_in J r c ≤ area_reached J r a
unfolding area_reached
area_in-completion J inst r a c h =
    let exist = StripsExist-append_parts J a c h.exist in
    let d = Apart-parts a c h.distinct in
    rw (area_in-area_where J r c exist.1 d.right)
    (area_where-le J r (λ i. has_strip i c) (λ i. reaches J a (2 * i) || reaches J a (2 * i + 1)) (λ i t.
    let found = has-from_has_strip i c t in
    subst (λ (j : ℕ). (reaches J a (2 * j) || reaches J a (2 * j + 1)) ≡ true) found.2
    (reaches-either J a found.0 (completion_in_reach J inst a c h found.0 found.1))))

-- the area in a list of distinct strips, none of them in the reach of a path, and that in the reach are at most the whole
pub area_in-reach-le : (J : Orbit) (r : ℕ) (b a : List ℕ) → StripsExist J b → StripsDistinct b
    → ((y : ℕ) → reaches J a y ≡ true → has_strip (strip_of y) b ≡ false) → area_in J r b + area_reached J r a ≤ whole_area J r
unfolding area_reached
area_in-reach-le J r b a exist d apart =
    rw (area_in-area_where J r b exist d)
    (area_where-apart J r (λ i. has_strip i b) (λ i. reaches J a (2 * i) || reaches J a (2 * i + 1)) (reaches-apart J b a apart))
