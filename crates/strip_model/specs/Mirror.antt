-- The mirror: the orbit seen from its end, with time running backwards.
use Rattle.std.specs.Prelude.{ℕ, ◌+◌, ◌-◌, ◌<◌, ◌≤◌, List, [], ◌∷◌, length, map, reverse}
use Rattle.manoeuvre.specs.Grid.{turned}
use Rattle.strip_model.specs.Directed.{strip_of}
use Rattle.strip_model.specs.Horizon.{horizon_of}
use Rattle.strip_model.specs.Orbit.{Orbit, window_of, duration_at}
use Rattle.strip_model.specs.declared.acquisition.Acquisition.{Acquisition}
use Rattle.strip_model.specs.declared.strip.Strip.{Strip}
use Rattle.strip_model.specs.declared.window.Window.{Window}

-- A window from the horizon on. An acquisition that starts last is over last, so its end comes first, and the latest start
-- becomes the earliest.
abbrev pub flip_window : ℕ → Window → Window
flip_window horizon w = record { early = horizon - w.late - w.duration; late = horizon - w.early - w.duration; duration = w.duration }

-- a strip with its two windows flipped
abbrev pub flip_strip : ℕ → Strip → Strip
flip_strip horizon s = record {
  request = s.request;
  twin = s.twin;
  area = s.area;
  windows = flip_window horizon (window_of s 0) ∷ flip_window horizon (window_of s 1) ∷ [];
}

-- The mirror of an instance: its windows flipped at its horizon, and the manoeuvre from x to y where that from y to x was.
unfoldable pub mirror_of : Orbit → Orbit
mirror_of J = record { requests = J.requests; strips = map (flip_strip (horizon_of J)) J.strips; table = turned J.table }

-- an acquisition from the end M on: it starts where it was over
abbrev pub flip : ℕ → Orbit → Acquisition → Acquisition
flip M J a = record { start = M - a.start - duration_at J a.at; at = a.at }

-- a plan from the end M on
abbrev pub flip_plan : ℕ → Orbit → List Acquisition → List Acquisition
flip_plan M J plan = reverse (map (flip M J) plan)

-- an acquisition of a strip that exists, which is over by M
pub record IsOverBy (M : ℕ) (J : Orbit) (a : Acquisition) : Type 0 where
  pub exist : strip_of a.at < length J.strips
  pub over : a.start + duration_at J a.at ≤ M
