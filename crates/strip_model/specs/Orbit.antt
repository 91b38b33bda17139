-- An instance as contracts see it, and how to look things up in it. Past the end of a list everything is 0.
use Rattle.std.specs.Prelude.{ℕ, ◌+◌, ◌*◌, List, [], slice_index_or, Option, None}
use Rattle.std.specs.Option.{option_map}
use Rattle.manoeuvre.specs.Grid.{Grid, entry_at}
use Rattle.strip_model.specs.Directed.{strip_of, direction_of}
use Rattle.strip_model.specs.declared.request.Request.{Request}
use Rattle.strip_model.specs.declared.strip.Strip.{Strip}
use Rattle.strip_model.specs.declared.window.Window.{Window}

-- the requests, the strips, and the manoeuvre times between directed strips
pub record Orbit : Type 0 where
  pub requests : List Request
  pub strips : List Strip
  pub table : Grid

abbrev pub no_request : Request
no_request = record { gain = 0 }

abbrev pub no_window : Window
no_window = record { early = 0; late = 0; duration = 0 }

abbrev pub no_strip : Strip
no_strip = record { request = 0; twin = None; area = 0; windows = [] }

-- the gain of request r
abbrev pub gain_at : Orbit → ℕ → ℕ
gain_at J r = (slice_index_or J.requests r no_request).gain

-- strip i of a list of strips
abbrev pub strip_in : List Strip → ℕ → Strip
strip_in strips i = slice_index_or strips i no_strip

-- strip i, its request, its area and its twin
abbrev pub strip_at : Orbit → ℕ → Strip
strip_at J i = strip_in J.strips i

abbrev pub request_at : Orbit → ℕ → ℕ
request_at J i = (strip_at J i).request

abbrev pub area_at : Orbit → ℕ → ℕ
area_at J i = (strip_at J i).area

abbrev pub twin_at : Orbit → ℕ → Option ℕ
twin_at J i = (strip_at J i).twin

-- the twin of a directed strip's strip, in its direction
abbrev pub partner_of : Orbit → ℕ → Option ℕ
partner_of J x = option_map (λ twin. 2 * twin + direction_of x) (twin_at J (strip_of x))

-- a strip's window in a direction
abbrev pub window_of : Strip → ℕ → Window
window_of s d = slice_index_or s.windows d no_window

-- the duration of a directed strip of a list of strips
abbrev pub duration_in : List Strip → ℕ → ℕ
duration_in strips x = (window_of (strip_in strips (strip_of x)) (direction_of x)).duration

-- the window of a directed strip, with its ends and its duration
abbrev pub window_at : Orbit → ℕ → Window
window_at J x = window_of (strip_at J (strip_of x)) (direction_of x)

abbrev pub early_at : Orbit → ℕ → ℕ
early_at J x = (window_at J x).early

abbrev pub late_at : Orbit → ℕ → ℕ
late_at J x = (window_at J x).late

abbrev pub duration_at : Orbit → ℕ → ℕ
duration_at J x = duration_in J.strips x

-- the manoeuvre time from x to y
abbrev pub manoeuvre_at : Orbit → ℕ → ℕ → ℕ
manoeuvre_at J x y = entry_at J.table x y
