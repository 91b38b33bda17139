-- The horizon: when the last possible acquisition is over.
use Rattle.std.specs.Prelude.{ℕ, ◌+◌, max, List, [], ◌∷◌}
use Rattle.strip_model.specs.Orbit.{Orbit, window_of}
use Rattle.strip_model.specs.declared.strip.Strip.{Strip}
use Rattle.strip_model.specs.declared.window.Window.{Window}

-- when an acquisition that starts at the later end of the window is over
abbrev pub end_of : Window → ℕ
end_of w = max w.early w.late + w.duration

-- the greatest end of these strips' windows, and 0 without strips
abbrev pub greatest_end : List Strip → ℕ
greatest_end [] = 0
greatest_end (s ∷ ss) = max (max (end_of (window_of s 0)) (end_of (window_of s 1))) (greatest_end ss)

abbrev pub horizon_of : Orbit → ℕ
horizon_of J = greatest_end J.strips
