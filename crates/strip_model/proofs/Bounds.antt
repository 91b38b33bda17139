-- Bounds of windows and manoeuvres, for sums of times.
use Rattle.std.proofs.Common.{ℕ, ◌+◌, ◌*◌, ◌<◌, ◌≤◌, length, sym, subst, inl, inr, arith}
use Rattle.manoeuvre.specs.declared.limits.TheConstants.{MAX_DURATION, MAX_MANOEUVRE}
use Rattle.std.proofs.lemmas.Bool.{cases_lt}
use Rattle.std.proofs.lemmas.List.{get_or_past}
use Rattle.strip_model.proofs.Durations.{window_of-within}
use Rattle.strip_model.specs.Directed.{strip_of, direction_of}
use Rattle.strip_model.specs.IsInstance.{IsInstance, IsWindow}
use Rattle.strip_model.specs.Orbit.{Orbit, no_strip, strip_at, window_of, window_at, early_at, late_at, duration_at, manoeuvre_at}
use Rattle.strip_model.specs.Starts.{After, ready}
use Rattle.strip_model.specs.declared.limits.TheConstants.{MAX_HORIZON}
use Rattle.strip_model.specs.declared.strip.Strip.{Strip}
use Rattle.strip_model.specs.declared.window.Window.{Window}

-- the window of a directed strip that exists keeps its limits
pub IsWindow-window_at : (J : Orbit) (y : ℕ) → IsInstance J → strip_of y < length J.strips → IsWindow (window_at J y)
IsWindow-window_at J y h l =
    window_of-within (strip_at J (strip_of y)) (direction_of y) (h.limits.each_strip (strip_of y) no_strip l).windows (omega arith)

-- an acquisition isn't longer than the greatest duration, and is over by the greatest horizon from either end of its window
record IsShort (w : Window) : Type 0 where
  duration : w.duration ≤ MAX_DURATION
  early : w.early + w.duration ≤ MAX_HORIZON
  late : w.late + w.duration ≤ MAX_HORIZON

IsShort-window : (w : Window) → IsWindow w → IsShort w
IsShort-window w h = record { duration = h.short; early = omega (arith, h.over); late = omega (arith, h.over) }

-- each window of an instance is within these limits; past the end there is none
IsShort-window_at : (J : Orbit) (y : ℕ) → IsInstance J → IsShort (window_at J y)
IsShort-window_at J y h =
    elim (cases_lt (strip_of y) (length J.strips)) [
      | inl there ↦ IsShort-window (window_at J y) (IsWindow-window_at J y h there)
      | inr past ↦ subst (λ (s : Strip). IsShort (window_of s (direction_of y))) (sym (get_or_past J.strips (strip_of y) no_strip past))
          (record { duration = omega arith; early = omega arith; late = omega arith })
    ]

-- no acquisition is longer than the greatest duration
pub duration_at-le : (J : Orbit) (y : ℕ) → IsInstance J → duration_at J y ≤ MAX_DURATION
duration_at-le J y h = (IsShort-window_at J y h).duration

-- an acquisition that starts at the early end is over by the greatest horizon
pub early_at-le : (J : Orbit) (y : ℕ) → IsInstance J → early_at J y + duration_at J y ≤ MAX_HORIZON
early_at-le J y h = (IsShort-window_at J y h).early

-- an acquisition that starts at the late end is over by the greatest horizon
pub late_at-le : (J : Orbit) (y : ℕ) → IsInstance J → late_at J y + duration_at J y ≤ MAX_HORIZON
late_at-le J y h = (IsShort-window_at J y h).late

-- an acquisition that exists takes time
pub duration_at_positive : (J : Orbit) (y : ℕ) → IsInstance J → strip_of y < length J.strips → 1 ≤ duration_at J y
duration_at_positive J y h l = (IsWindow-window_at J y h l).takes_time

-- no manoeuvre is longer than the greatest; past the end of the table it takes no time
pub manoeuvre_at-le : (J : Orbit) (x y : ℕ) → IsInstance J → manoeuvre_at J x y ≤ MAX_MANOEUVRE
manoeuvre_at-le J x y h =
    let t = J.table in
    let k = x * t.size + y in
    elim (cases_lt k (length t.entries)) [
      | inl there ↦ h.table.bounded k 0 there
      | inr past ↦ omega (arith, get_or_past t.entries k 0 past)
    ]

-- after a start in its window the satellite is ready for the next by the greatest horizon and the longest manoeuvre
pub ready-le : (J : Orbit) (s x y : ℕ) → IsInstance J → s ≤ late_at J x → ready J (After s x) y ≤ MAX_HORIZON + MAX_MANOEUVRE
ready-le J s x y h within = sums s (late_at J x) (duration_at J x) (manoeuvre_at J x y) within (late_at-le J x h) (manoeuvre_at-le J x y h)
  where
    sums : (s t d m : ℕ) → s ≤ t → t + d ≤ MAX_HORIZON → m ≤ MAX_MANOEUVRE → s + d + m ≤ MAX_HORIZON + MAX_MANOEUVRE
    sums s t d m within over turn = omega arith
