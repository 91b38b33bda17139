-- Every acquisition is over by the horizon, and the horizon is within its limit.
use Rattle.std.proofs.Common.{ℕ, zero, suc, ◌+◌, ◌<◌, ◌≤◌, max, List, [], ◌∷◌, length, arith}
use Rattle.std.specs.Prelude.{All}
use Rattle.strip_model.specs.Directed.{strip_of, direction_of}
use Rattle.strip_model.specs.Horizon.{end_of, greatest_end, horizon_of}
use Rattle.strip_model.specs.IsInstance.{IsInstance, HasWindows}
use Rattle.strip_model.specs.Orbit.{Orbit, no_strip, strip_in, window_of, window_at, early_at, late_at, duration_at}
use Rattle.strip_model.specs.declared.limits.TheConstants.{MAX_HORIZON}
use Rattle.strip_model.specs.declared.strip.Strip.{Strip}

end_of-strip : (s : Strip) (d : ℕ) → d < 2 → end_of (window_of s d) ≤ max (end_of (window_of s 0)) (end_of (window_of s 1))
end_of-strip s zero l = left (end_of (window_of s 0)) (end_of (window_of s 1))
  where
    left : (a b : ℕ) → a ≤ max a b
    left a b = omega arith
end_of-strip s (suc zero) l = right (end_of (window_of s 0)) (end_of (window_of s 1))
  where
    right : (a b : ℕ) → b ≤ max a b
    right a b = omega arith
end_of-strip s (suc (suc d)) l = absurd (omega arith)

-- no window of these strips is over after the greatest end
pub greatest_end-above : (ss : List Strip) (i d : ℕ) → i < length ss → d < 2 → end_of (window_of (strip_in ss i) d) ≤ greatest_end ss
greatest_end-above [] i d li ld = absurd (omega arith)
greatest_end-above (s ∷ ss) zero d li ld =
    first (end_of (window_of s d)) (max (end_of (window_of s 0)) (end_of (window_of s 1))) (greatest_end ss) (end_of-strip s d ld)
  where
    first : (a b c : ℕ) → a ≤ b → a ≤ max b c
    first a b c h = omega arith
greatest_end-above (s ∷ ss) (suc i) d li ld =
    later (end_of (window_of (strip_in ss i) d)) (max (end_of (window_of s 0)) (end_of (window_of s 1))) (greatest_end ss)
    (greatest_end-above ss i d (omega arith) ld)
  where
    later : (a b c : ℕ) → a ≤ c → a ≤ max b c
    later a b c h = omega arith

-- no window of a strip that exists is over after the horizon
pub horizon_of-above : (J : Orbit) (x : ℕ) → strip_of x < length J.strips → end_of (window_at J x) ≤ horizon_of J
horizon_of-above J x l = greatest_end-above J.strips (strip_of x) (direction_of x) l (omega arith)

-- an acquisition that starts at the early end of its window is over by the horizon
pub horizon_of-early : (J : Orbit) (x : ℕ) → strip_of x < length J.strips → early_at J x + duration_at J x ≤ horizon_of J
horizon_of-early J x l = early (early_at J x) (late_at J x) (duration_at J x) (horizon_of J) (horizon_of-above J x l)
  where
    early : (a b c h : ℕ) → max a b + c ≤ h → a + c ≤ h
    early a b c h over = omega arith

-- an acquisition that starts at the late end of its window is over by the horizon
pub horizon_of-late : (J : Orbit) (x : ℕ) → strip_of x < length J.strips → late_at J x + duration_at J x ≤ horizon_of J
horizon_of-late J x l = late (early_at J x) (late_at J x) (duration_at J x) (horizon_of J) (horizon_of-above J x l)
  where
    late : (a b c h : ℕ) → max a b + c ≤ h → b + c ≤ h
    late a b c h over = omega arith

-- the greatest end of windows within their limits
pub greatest_end-le : (ss : List Strip) → All HasWindows ss → greatest_end ss ≤ MAX_HORIZON
greatest_end-le [] h = omega arith
greatest_end-le (s ∷ ss) h =
    let here = h 0 no_strip (omega arith) in
    three (end_of (window_of s 0)) (end_of (window_of s 1)) (greatest_end ss) here.forth.over here.back.over
    (greatest_end-le ss (λ k d l. h (suc k) d (omega arith)))
  where
    three : (a b c : ℕ) → a ≤ MAX_HORIZON → b ≤ MAX_HORIZON → c ≤ MAX_HORIZON → max (max a b) c ≤ MAX_HORIZON
    three a b c ha hb hc = omega arith

-- the horizon of an instance
pub horizon_of-le : (J : Orbit) → IsInstance J → horizon_of J ≤ MAX_HORIZON
horizon_of-le J h = greatest_end-le J.strips (λ k d l. (h.limits.each_strip k d l).windows)
