-- What every instance keeps.
use Rattle.std.specs.Prelude.{◌≡◌, ◌≢◌, ℕ, ◌+◌, ◌*◌, ◌<◌, ◌≤◌, max, List, length, All, IfSome, Some}
use Rattle.manoeuvre.specs.Grid.{IsTable, KeepsShortcut}
use Rattle.manoeuvre.specs.declared.limits.TheConstants.{MAX_DURATION}
use Rattle.strip_model.specs.Orbit.{Orbit, window_of, strip_in, duration_at}
use Rattle.strip_model.specs.declared.limits.TheConstants.{MAX_REQUESTS, MAX_STRIPS, MAX_GAIN, MAX_STRIP_AREA, MAX_HORIZON}
use Rattle.strip_model.specs.declared.request.Request.{Request}
use Rattle.strip_model.specs.declared.strip.Strip.{Strip}
use Rattle.strip_model.specs.declared.window.Window.{Window}

-- a window's limits: an acquisition that starts at either end is over by the greatest horizon
pub record IsWindow (w : Window) : Type 0 where
  pub takes_time : 1 ≤ w.duration
  pub short : w.duration ≤ MAX_DURATION
  pub over : max w.early w.late + w.duration ≤ MAX_HORIZON

-- both windows of a strip are within their limits
pub record HasWindows (s : Strip) : Type 0 where
  pub forth : IsWindow (window_of s 0)
  pub back : IsWindow (window_of s 1)

-- a strip's limits, where there are that many requests
pub record IsStrip (requests : ℕ) (s : Strip) : Type 0 where
  pub request : s.request < requests
  pub some_area : 1 ≤ s.area
  pub small : s.area ≤ MAX_STRIP_AREA
  pub windows : HasWindows s

-- the limits on requests and strips
pub record IsWithinLimits (requests : List Request) (strips : List Strip) : Type 0 where
  pub few_requests : length requests ≤ MAX_REQUESTS
  pub gains : All (λ r. r.gain ≤ MAX_GAIN) requests
  pub few_strips : length strips ≤ MAX_STRIPS
  pub each_strip : All (IsStrip (length requests)) strips

-- j can be the twin of strip i: another strip of the same request, whose twin is i
pub record IsTwinOf (strips : List Strip) (i j : ℕ) : Type 0 where
  pub there : j < length strips
  pub other : j ≢ i
  pub in_turn : (strip_in strips j).twin ≡ Some i
  pub same_request : (strip_in strips j).request ≡ (strip_in strips i).request

-- The twin rule: no strip is its own twin, and twins are mutual and of one request.
abbrev pub KeepsTwins : List Strip → Type 0
KeepsTwins strips = (i : ℕ) → i < length strips → IfSome (strip_in strips i).twin (IsTwinOf strips i)

-- a strip has a window in each of two directions, as its type says
abbrev pub HasTwoWindows : Strip → Type 0
HasTwoWindows s = length s.windows ≡ 2

-- What an instance keeps: the limits, the twin rule, and a manoeuvre table of two directed strips for each strip that
-- keeps its rules with the instance's durations.
pub record IsInstance (J : Orbit) : Type 0 where
  pub limits : IsWithinLimits J.requests J.strips
  pub two_windows : All HasTwoWindows J.strips
  pub twins : KeepsTwins J.strips
  pub table : IsTable J.table
  pub table_size : J.table.size ≡ 2 * length J.strips
  pub shortcut : KeepsShortcut (duration_at J) J.table
