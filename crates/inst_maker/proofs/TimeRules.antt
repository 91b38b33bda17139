-- The manoeuvre times keep the limit, the same-strip rule and the shortcut rule.
use Rattle.std.proofs.Common.{◌≡◌, ◌≢◌, ℕ, ◌+◌, ◌*◌, ◌/◌, ◌%◌, ◌<◌, ◌≤◌, true, false, eqb, List, length, get_or, refl, sym, ◌∙◌, ap, arith, eq-eqb}
use Rattle.std.specs.Prelude.{All, if◌then◌else◌}
use Rattle.std.specs.List.{range_with_len}
use Rattle.std.proofs.lemmas.Bool.{ne_eqb}
use Rattle.std.proofs.lemmas.List.Elements.{All-map}
use Rattle.inst_maker.specs.Made.{time_between, in_rows, apart}
use Rattle.inst_maker.proofs.Rows.{length-in_rows, get_or-in_rows}
use Rattle.manoeuvre.specs.Grid.{AreOfThreeStrips, entry_at}
use Rattle.manoeuvre.specs.Refusal.{IsCause, grid_of}
use Rattle.manoeuvre.specs.declared.limits.TheConstants.{MAX_MANOEUVRE}
use Rattle.manoeuvre.specs.declared.refusal.TableRefusal.{TableRefusal}
use Rattle.manoeuvre.specs.declared.refusal.TableRefusal.TheVariants.{Shape, SameStrip, Shortcut, Memory}

-- what a change of direction adds
abbrev turn : ℕ → ℕ → ℕ
turn x y = if eqb (x % 2) (y % 2) then 0 else 5

turn-le : (x y : ℕ) → turn x y ≤ 5
turn-le x y = elim (eqb (x % 2) (y % 2)) as (λ same. (if same then 0 else 5) ≤ 5) [ true ↦ omega arith | false ↦ omega arith ]

within_a_strip : (us : List ℕ) (x y : ℕ) → x / 2 ≡ y / 2 → time_between us x y ≡ 0
unfolding time_between
within_a_strip us x y same = rw (eq-eqb (x / 2) (y / 2) same) refl

between_strips : (us : List ℕ) (x y : ℕ) → x / 2 ≢ y / 2 → time_between us x y ≡ 10 + apart (get_or us (x / 2) 0) (get_or us (y / 2) 0) + turn x y
unfolding time_between
between_strips us x y other = rw (ne_eqb (x / 2) (y / 2) other) refl

apart-triangle : (a b c : ℕ) → apart a c ≤ apart a b + apart b c
apart-triangle a b c = omega arith

-- a detour by a third strip takes 5 ticks more at least
detour : (us : List ℕ) (x y z : ℕ) → AreOfThreeStrips x y z → time_between us x z ≤ time_between us x y + time_between us y z
detour us x y z three =
    let direct = between_strips us x z three.first_third in
    let there = between_strips us x y three.first_second in
    let onward = between_strips us y z three.second_third in
    let shorter = apart-triangle (get_or us (x / 2) 0) (get_or us (y / 2) 0) (get_or us (z / 2) 0) in
    omega (arith, turn-le x z)

time_between-le : (us : List ℕ) → ((i : ℕ) → get_or us i 0 ≤ 50) → (x y : ℕ) → time_between us x y ≤ MAX_MANOEUVRE
unfolding time_between
time_between-le us near x y =
    let above : 10 + apart (get_or us (x / 2) 0) (get_or us (y / 2) 0) + turn x y ≤ MAX_MANOEUVRE =
    omega (arith, near (x / 2), near (y / 2), turn-le x y) in
    elim (eqb (x / 2) (y / 2)) as (λ same. (if same then 0 else 10 + apart (get_or us (x / 2) 0) (get_or us (y / 2) 0) + turn x y) ≤ MAX_MANOEUVRE) [
      | true ↦ omega arith
      | false ↦ above
    ]

pub entries_small : (n : ℕ) (us : List ℕ) → ((i : ℕ) → get_or us i 0 ≤ 50) → All (λ m. m ≤ MAX_MANOEUVRE) (in_rows n (time_between us))
unfolding in_rows
entries_small n us near =
    All-map (λ m. m ≤ MAX_MANOEUVRE) (λ k. time_between us (k / n) (k % n)) (range_with_len 0 (n * n)) (λ k d h. time_between-le us near _ _)

-- an entry of a table of these times
entry_is : (us durations entries : List ℕ) (n : ℕ) → n ≡ length durations → entries ≡ in_rows n (time_between us)
    → (x y : ℕ) → x < length durations → y < length durations → entry_at (grid_of durations entries) x y ≡ time_between us x y
entry_is us durations entries n size e x y row column =
    ap (λ (entries : List ℕ). get_or entries (x * length durations + y) 0) e
    ∙ ap (λ (n' : ℕ). get_or (in_rows n (time_between us)) (x * n' + y) 0) (sym size)
    ∙ get_or-in_rows n (time_between us) x y 0 (omega arith) (omega arith)

-- no rule of a table is broken by them
pub none_broken : (us durations entries : List ℕ) (n : ℕ) → n ≡ length durations → entries ≡ in_rows n (time_between us)
    → (cause : TableRefusal) → IsCause durations entries cause → cause ≢ Memory → ⊥
none_broken us durations entries n size e (Shape expected found) h other =
    h.2 (h.0 ∙ ap length e ∙ length-in_rows n (time_between us) ∙ ap (λ (n : ℕ). n * n) size ∙ sym h.1)
none_broken us durations entries n size e (SameStrip x y value) h other =
    let broken = h.1.breaks in
    broken.takes_time (entry_is us durations entries n size e x y broken.row broken.column ∙ within_a_strip us x y broken.one_strip)
none_broken us durations entries n size e (Shortcut x y z) h other =
    let broken = h.2.breaks in
    let direct = entry_is us durations entries n size e x z broken.first broken.third in
    let there = entry_is us durations entries n size e x y broken.first broken.second in
    let onward = entry_is us durations entries n size e y z broken.second broken.third in
    let longer = detour us x y z broken.three_strips in
    absurd (omega (arith, broken.saves_time))
none_broken us durations entries n size e Memory h other = other refl
