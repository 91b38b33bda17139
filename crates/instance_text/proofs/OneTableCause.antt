-- A table breaks a rule first at one place.
use Rattle.std.proofs.Common.{◌≡◌, ℕ, ◌<◌, subst, arith, inl, inr}
use Rattle.std.proofs.lemmas.Bool.{cases_order}
use Rattle.manoeuvre.specs.Grid.{Grid, DetourSavesNoTime, KeepsSameStrip}
use Rattle.manoeuvre.specs.Refusal.{IsFirstSameStrip, BreaksShortcut, IsFirstShortcut}

-- ---- the same-strip rule

no_earlier_row : (t : Grid) (x y a b : ℕ) → IsFirstSameStrip t x y → IsFirstSameStrip t a b → x < a → ⊥
no_earlier_row t x y a b hx ha lt = hx.breaks.takes_time (ha.rows x y lt hx.breaks.column hx.breaks.one_strip)

one_row : (t : Grid) (x y a b : ℕ) → IsFirstSameStrip t x y → IsFirstSameStrip t a b → x ≡ a
one_row t x y a b hx ha =
    elim (cases_order x a) [
      | inl e ↦ e
      | inr (inl lt) ↦ absurd (no_earlier_row t x y a b hx ha lt)
      | inr (inr lt) ↦ absurd (no_earlier_row t a b x y ha hx lt)
    ]

no_earlier_column : (t : Grid) (x y b : ℕ) → IsFirstSameStrip t x y → IsFirstSameStrip t x b → y < b → ⊥
no_earlier_column t x y b hy hb lt = hy.breaks.takes_time (hb.columns y lt hy.breaks.one_strip)

one_column : (t : Grid) (x y b : ℕ) → IsFirstSameStrip t x y → IsFirstSameStrip t x b → y ≡ b
one_column t x y b hy hb =
    elim (cases_order y b) [
      | inl e ↦ e
      | inr (inl lt) ↦ absurd (no_earlier_column t x y b hy hb lt)
      | inr (inr lt) ↦ absurd (no_earlier_column t x b y hb hy lt)
    ]

-- the first place that breaks the same-strip rule is one
pub one_same_strip : (t : Grid) (x y a b : ℕ) → IsFirstSameStrip t x y → IsFirstSameStrip t a b → (x ≡ a) × (y ≡ b)
one_same_strip t x y a b hx ha =
    let row = one_row t x y a b hx ha in
    (row, one_column t a y b (subst (λ (n : ℕ). IsFirstSameStrip t n y) row hx) ha)

-- a table that breaks the rule doesn't keep it
pub same_strip_broken : (t : Grid) (x y : ℕ) → IsFirstSameStrip t x y → KeepsSameStrip t → ⊥
same_strip_broken t x y h keeps = h.breaks.takes_time (keeps.at_each x y h.breaks.row h.breaks.column h.breaks.one_strip)

-- ---- the shortcut rule

breaks_or_not : (d : ℕ → ℕ) (t : Grid) (x y z : ℕ) → BreaksShortcut d t x y z → DetourSavesNoTime d t x y z → ⊥
breaks_or_not d t x y z breaks saves_none =
    let saves = breaks.saves_time in
    let none = saves_none breaks.three_strips in
    omega arith

no_earlier_first : (d : ℕ → ℕ) (t : Grid) (x y z a b c : ℕ) → IsFirstShortcut d t x y z → IsFirstShortcut d t a b c → x < a → ⊥
no_earlier_first d t x y z a b c hx ha lt = breaks_or_not d t x y z hx.breaks (ha.firsts x y z lt hx.breaks.second hx.breaks.third)

one_first : (d : ℕ → ℕ) (t : Grid) (x y z a b c : ℕ) → IsFirstShortcut d t x y z → IsFirstShortcut d t a b c → x ≡ a
one_first d t x y z a b c hx ha =
    elim (cases_order x a) [
      | inl e ↦ e
      | inr (inl lt) ↦ absurd (no_earlier_first d t x y z a b c hx ha lt)
      | inr (inr lt) ↦ absurd (no_earlier_first d t a b c x y z ha hx lt)
    ]

no_earlier_second : (d : ℕ → ℕ) (t : Grid) (x y z b c : ℕ) → IsFirstShortcut d t x y z → IsFirstShortcut d t x b c → y < b → ⊥
no_earlier_second d t x y z b c hy hb lt = breaks_or_not d t x y z hy.breaks (hb.seconds y z lt hy.breaks.third)

one_second : (d : ℕ → ℕ) (t : Grid) (x y z b c : ℕ) → IsFirstShortcut d t x y z → IsFirstShortcut d t x b c → y ≡ b
one_second d t x y z b c hy hb =
    elim (cases_order y b) [
      | inl e ↦ e
      | inr (inl lt) ↦ absurd (no_earlier_second d t x y z b c hy hb lt)
      | inr (inr lt) ↦ absurd (no_earlier_second d t x b c y z hb hy lt)
    ]

no_earlier_third : (d : ℕ → ℕ) (t : Grid) (x y z c : ℕ) → IsFirstShortcut d t x y z → IsFirstShortcut d t x y c → z < c → ⊥
no_earlier_third d t x y z c hz hc lt = breaks_or_not d t x y z hz.breaks (hc.thirds z lt)

one_third : (d : ℕ → ℕ) (t : Grid) (x y z c : ℕ) → IsFirstShortcut d t x y z → IsFirstShortcut d t x y c → z ≡ c
one_third d t x y z c hz hc =
    elim (cases_order z c) [
      | inl e ↦ e
      | inr (inl lt) ↦ absurd (no_earlier_third d t x y z c hz hc lt)
      | inr (inr lt) ↦ absurd (no_earlier_third d t x y c z hc hz lt)
    ]

-- the first detour that saves time is one
pub one_shortcut : (d : ℕ → ℕ) (t : Grid) (x y z a b c : ℕ) → IsFirstShortcut d t x y z → IsFirstShortcut d t a b c → (x ≡ a) × (y ≡ b) × (z ≡ c)
one_shortcut d t x y z a b c hx ha =
    let first = one_first d t x y z a b c hx ha in
    let from_a = subst (λ (n : ℕ). IsFirstShortcut d t n y z) first hx in
    let second = one_second d t a y z b c from_a ha in
    let by_b = subst (λ (n : ℕ). IsFirstShortcut d t a n z) second from_a in
    (first, second, one_third d t a b z c by_b ha)
