-- A start before the deadline is one after which the next directed strip can begin in its window.
use Rattle.std.proofs.Common.{◌≡◌, ℕ, ◌+◌, ◌*◌, ◌-◌, ◌≤◌, max, Bool, true, false, not, ◌&&◌, ◌||◌, ◌==◌, nat_lt, nat_le, if◌then◌else◌, List, length, refl, sym, ◌∙◌, ap, inl, inr, arith}
use Rattle.std.proofs.lemmas.Bool.Decides.{nat_tests}
use Rattle.std.proofs.lemmas.Bool.{ltb-true, le-leb, cases_eq, eq-eqb, ne_eqb}
use Rattle.label.specs.Tables.{deadline_at}
use Rattle.strip_model.specs.Directed.{strip_of, has_strip}
use Rattle.strip_model.specs.Orbit.{Orbit, early_at, late_at, duration_at, manoeuvre_at}
use Rattle.strip_model.specs.Reach.{reaches}
use Rattle.strip_model.specs.Starts.{Place, Root, After, arrive, place_after}

-- the same for numbers: an early and a late end, a start, a duration and a manoeuvre
before : (e l s d m : ℕ) → nat_le (max e (s + d + m)) l ≡ nat_lt s (if nat_le e l then l + 1 - (d + m) else 0)
before e l s d m = grind (arith, nat_tests)

pub before_deadline : (J : Orbit) (s x y : ℕ) → nat_le (arrive J (After s x) y) (late_at J y) ≡ nat_lt s (deadline_at J x y)
before_deadline J s x y = before (early_at J y) (late_at J y) s (duration_at J x) (manoeuvre_at J x y)

-- from the deadline on, it begins too late
pub past_deadline : (J : Orbit) (s x y deadline : ℕ) → deadline ≡ deadline_at J x y → deadline ≤ s → arrive J (After s x) y ≤ late_at J y → ⊥
past_deadline J s x y deadline is past in_time =
    let before : nat_lt s (deadline_at J x y) ≡ true = sym (before_deadline J s x y) ∙ le-leb (arrive J (After s x) y) (late_at J y) in_time in
    omega (arith, is, past, ltb-true s (deadline_at J x y) before)

-- what a path reaches, by its last acquisition
pub reaches-deadline : (J : Orbit) (path : List ℕ) (s x : ℕ) → place_after J Root path ≡ After s x → (y : ℕ)
    → reaches J path y ≡ (nat_lt (strip_of y) (length J.strips) && (not (has_strip (strip_of y) path) && nat_lt s (deadline_at J x y)))
unfolding reaches
reaches-deadline J path s x at y =
    let exists = nat_lt (strip_of y) (length J.strips) in
    let is_new = not (has_strip (strip_of y) path) in
    ap (λ (q : Place). exists && (is_new && nat_le (arrive J q y) (late_at J y))) at
    ∙ ap (λ (b : Bool). exists && (is_new && b)) (before_deadline J s x y)

-- ---- the set of what is in time, as it is built strip by strip

or_false : (b : Bool) → (b || false) ≡ b
or_false true = refl
or_false false = refl

below_more : (i n : ℕ) → (i ≡ n → ⊥) → nat_lt i n ≡ nat_lt i (n + 1)
below_more i n other = grind (arith, nat_tests)

-- both directions of a strip, one after the other
pub both_directions : (in_time : ℕ → Bool) (there : Bool) (strip y first second : ℕ) → first ≡ 2 * strip → second ≡ 2 * strip + 1
    → ((there || ((y == first) && in_time first)) || ((y == second) && in_time second)) ≡ (there || ((strip_of y == strip) && in_time y))
both_directions in_time there strip y first second is_first is_second =
    elim (cases_eq y first) [
      | inl same ↦
          first_one (y == first) (y == second) (strip_of y == strip) there (in_time first) (in_time second) (in_time y)
          (eq-eqb y first same) (ne_eqb y second (λ e. omega arith)) (eq-eqb (strip_of y) strip (omega arith)) (ap in_time (sym same))
      | inr other ↦ elim (cases_eq y second) [
        | inl same ↦
            second_one (y == first) (y == second) (strip_of y == strip) there (in_time first) (in_time second) (in_time y)
            (ne_eqb y first other) (eq-eqb y second same) (eq-eqb (strip_of y) strip (omega arith)) (ap in_time (sym same))
        | inr neither ↦
            none (y == first) (y == second) (strip_of y == strip) there (in_time first) (in_time second) (in_time y)
            (ne_eqb y first other) (ne_eqb y second neither) (ne_eqb (strip_of y) strip (λ e. omega arith))
      ]
    ]
  where
    first_one : (p q r there f g h : Bool) → p ≡ true → q ≡ false → r ≡ true → f ≡ h → ((there || (p && f)) || (q && g)) ≡ (there || (r && h))
    first_one p q r there f g h is isnt strip same = rw (is, isnt, strip, same) (or_false (there || h))

    second_one : (p q r there f g h : Bool) → p ≡ false → q ≡ true → r ≡ true → g ≡ h → ((there || (p && f)) || (q && g)) ≡ (there || (r && h))
    second_one p q r there f g h isnt is strip same = rw (is, isnt, strip, same) (ap (λ (b : Bool). b || h) (or_false there))

    none : (p q r there f g h : Bool) → p ≡ false → q ≡ false → r ≡ false → ((there || (p && f)) || (q && g)) ≡ (there || (r && h))
    none p q r there f g h isnt neither strip = rw (isnt, neither, strip) (or_false (there || false))

-- the strips below n and strip n, which isn't visited, are those below n + 1
pub with_new_strip : (i n : ℕ) (visited : ℕ → Bool) (in_time : Bool) → visited n ≡ false
    → ((nat_lt i n && (not (visited i) && in_time)) || ((i == n) && in_time)) ≡ (nat_lt i (n + 1) && (not (visited i) && in_time))
with_new_strip i n visited in_time is_new =
    elim (cases_eq i n) [
      | inl same ↦ this (nat_lt i n) (i == n) (nat_lt i (n + 1)) (visited i) in_time
          (grind (arith, nat_tests)) (eq-eqb i n same) (grind (arith, nat_tests)) (ap visited same ∙ is_new)
      | inr other ↦ another (nat_lt i n) (i == n) (nat_lt i (n + 1)) (not (visited i) && in_time) in_time (below_more i n other) (ne_eqb i n other)
    ]
  where
    this : (p q r v b : Bool) → p ≡ false → q ≡ true → r ≡ true → v ≡ false → ((p && (not v && b)) || (q && b)) ≡ (r && (not v && b))
    this p q r v b isnt is within is_new = rw (isnt, is, within, is_new) refl

    another : (p q r x b : Bool) → p ≡ r → q ≡ false → ((p && x) || (q && b)) ≡ (r && x)
    another p q r x b same isnt = rw (same, isnt) (or_false (r && x))

-- nothing of a visited strip is added
pub with_old_strip : (i n : ℕ) (visited : ℕ → Bool) (in_time : Bool) → visited n ≡ true
    → (nat_lt i n && (not (visited i) && in_time)) ≡ (nat_lt i (n + 1) && (not (visited i) && in_time))
with_old_strip i n visited in_time is_old =
    elim (cases_eq i n) [
      | inl same ↦ this (nat_lt i n) (nat_lt i (n + 1)) (visited i) in_time (ap visited same ∙ is_old)
      | inr other ↦ ap (λ (b : Bool). b && (not (visited i) && in_time)) (below_more i n other)
    ]
  where
    no : (b : Bool) → (b && false) ≡ false
    no true = refl
    no false = refl

    this : (p r v b : Bool) → v ≡ true → (p && (not v && b)) ≡ (r && (not v && b))
    this p r v b is_old = rw is_old (no p ∙ sym (no r))
