-- The durations that an instance hands to its table are those of its directed strips.
use Rattle.std.proofs.Common.{◌≡◌, ℕ, zero, suc, ◌+◌, ◌*◌, ◌/◌, ◌%◌, ◌<◌, ◌≤◌, List, [], ◌∷◌, ◌++◌, length, take, set, get_or, append_assoc, refl, sym, ◌∙◌, ap, arith}
use Rattle.std.specs.Prelude.{All}
use Rattle.std.proofs.lemmas.List.{take_more, take_more_set, length-set}
use Rattle.manoeuvre.specs.Grid.{Grid, KeepsShortcut}
use Rattle.manoeuvre.specs.declared.limits.TheConstants.{MAX_DURATION}
use Rattle.strip_model.specs.IsInstance.{HasWindows, IsWindow}
use Rattle.strip_model.specs.Orbit.{no_strip, no_window, strip_in, window_of, duration_in}
use Rattle.strip_model.specs.Refusal.{durations_of}
use Rattle.strip_model.specs.declared.strip.Strip.{Strip}
use Rattle.strip_model.specs.declared.window.Window.{Window}

pub length-durations_of : (ss : List Strip) → length (durations_of ss) ≡ 2 * length ss
length-durations_of [] = refl
length-durations_of (s ∷ ss) = omega (arith, length-durations_of ss)

duration_in-later : (s : Strip) (ss : List Strip) (x : ℕ) → duration_in (s ∷ ss) (suc (suc x)) ≡ duration_in ss x
duration_in-later s ss x =
    let half : suc (suc x) / 2 ≡ suc (x / 2) = omega arith in
    let odd : suc (suc x) % 2 ≡ x % 2 = omega arith in
    ap (λ (i : ℕ). (window_of (strip_in (s ∷ ss) i) (suc (suc x) % 2)).duration) half
    ∙ ap (λ (d : ℕ). (window_of (strip_in ss (x / 2)) d).duration) odd

-- the duration of directed strip x stands at place x
pub durations_of-at : (ss : List Strip) (x d : ℕ) → x < 2 * length ss → get_or (durations_of ss) x d ≡ duration_in ss x
durations_of-at [] x d h = absurd (omega arith)
durations_of-at (s ∷ ss) zero d h = refl
durations_of-at (s ∷ ss) (suc zero) d h = refl
durations_of-at (s ∷ ss) (suc (suc x)) d h = durations_of-at ss x d (omega arith) ∙ sym (duration_in-later s ss x)

-- a strip's window in either direction keeps the limits
pub window_of-within : (s : Strip) (d : ℕ) → HasWindows s → d < 2 → IsWindow (window_of s d)
window_of-within s zero h l = h.forth
window_of-within s (suc zero) h l = h.back
window_of-within s (suc (suc d)) h l = absurd (omega arith)

pub durations_of-within : (ss : List Strip) → All HasWindows ss → All (λ p. (1 ≤ p) × (p ≤ MAX_DURATION)) (durations_of ss)
durations_of-within ss h k d l =
    let small : k < 2 * length ss = omega (arith, length-durations_of ss) in
    let w = window_of-within (strip_in ss (k / 2)) (k % 2) (h (k / 2) no_strip (omega arith)) (omega arith) in
    rw (durations_of-at ss k d small) (w.takes_time, w.short)

-- the shortcut rule depends on the durations of the table's directed strips alone
pub KeepsShortcut-along : (p q : ℕ → ℕ) (t : Grid) → ((y : ℕ) → y < t.size → p y ≡ q y) → KeepsShortcut p t → KeepsShortcut q t
KeepsShortcut-along p q t e h = record {
  at_each = λ x y z lx ly lz three. rw (← e y ly) (h.at_each x y z lx ly lz three);
}

-- the durations of joined lists
pub durations_of-append : (ss other : List Strip) → durations_of (ss ++ other) ≡ durations_of ss ++ durations_of other
durations_of-append [] other = refl
durations_of-append (s ∷ ss) other =
    ap (λ (ds : List ℕ). (window_of s 0).duration ∷ (window_of s 1).duration ∷ ds) (durations_of-append ss other)

-- the durations of one more strip
pub durations_of_more : (ss : List Strip) (i : ℕ) (d : Strip) → i < length ss
    → durations_of (take (i + 1) ss) ≡ durations_of (take i ss) ++ (window_of (get_or ss i d) 0).duration ∷ (window_of (get_or ss i d) 1).duration ∷ []
durations_of_more ss i d l =
    ap (λ (xs : List Strip). durations_of xs) (take_more ss i d l) ∙ durations_of-append (take i ss) (get_or ss i d ∷ [])

-- two places written after the first ones
pub take_two_more : (ds : List ℕ) (i a b : ℕ) → 2 * i + 1 < length ds
    → take (2 * (i + 1)) (set (set ds (2 * i) a) (2 * i + 1) b) ≡ take (2 * i) ds ++ a ∷ b ∷ []
take_two_more ds i a b l =
    let k = 2 * i in
    let es = set ds k a in
    let long : length es ≡ length ds = length-set ds k a in
    let sum : 2 * (i + 1) ≡ k + 1 + 1 = omega arith in
    ap (λ (n : ℕ). take n (set es (k + 1) b)) sum
    ∙ take_more_set es (k + 1) b (omega (arith, l, long))
    ∙ ap (λ (xs : List ℕ). xs ++ b ∷ []) (take_more_set ds k a (omega (arith, l)))
    ∙ append_assoc (take k ds) (a ∷ []) (b ∷ [])

-- the durations of one more strip, written after those of the ones before
pub durations_written : (ds : List ℕ) (ss : List Strip) (ws : List Window) (i : ℕ) → i < length ss → 2 * i + 1 < length ds
    → ws ≡ (get_or ss i no_strip).windows → take (2 * i) ds ≡ durations_of (take i ss)
    → take (2 * (i + 1)) (set (set ds (2 * i) (get_or ws 0 no_window).duration) (2 * i + 1) (get_or ws 1 no_window).duration) ≡ durations_of (take (i + 1) ss)
durations_written ds ss ws i l room windows before =
    let a : List Window → ℕ = λ ws. (get_or ws 0 no_window).duration in
    let b : List Window → ℕ = λ ws. (get_or ws 1 no_window).duration in
    take_two_more ds i (a ws) (b ws) room
    ∙ ap (λ (xs : List ℕ). xs ++ a ws ∷ b ws ∷ []) before
    ∙ ap (λ (vs : List Window). durations_of (take i ss) ++ a vs ∷ b vs ∷ []) windows
    ∙ sym (durations_of_more ss i no_strip l)
