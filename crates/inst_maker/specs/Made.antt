-- The instance that is made of a seed and a size.
use Rattle.std.specs.Prelude.{ℕ, ◌+◌, ◌-◌, ◌*◌, ◌/◌, ◌%◌, ◌==◌, nat_lt, nat_le, ◌&&◌, if◌then◌else◌, List, [], ◌∷◌, map, slice_index, Option, Some, None}
use Rattle.std.specs.List.{range_with_len}
use Rattle.inst_maker.specs.Draws.{Draw, draw, give, ◌>>=◌, in_order}
use Rattle.inst_maker.specs.declared.placed.Placed.{Placed}
use Rattle.strip_model.specs.Directed.{strip_of, direction_of}
use Rattle.strip_model.specs.Orbit.{Orbit}
use Rattle.strip_model.specs.declared.request.Request.{Request}
use Rattle.strip_model.specs.declared.window.Window.{Window}

-- a request: its gain lies between 1 and 100
unfoldable pub a_request : Draw Request
a_request = do
  gain ← draw 100
  give (record { gain = 1 + gain })

-- an open window of strip i: it begins less than 40 ticks after 100 * i, and ends less than 60 ticks after that
unfoldable pub a_window : ℕ → Draw Window
a_window i = do
  wait ← draw 40
  slack ← draw 60
  longer ← draw 20
  give (record { early = 100 * i + wait; late = 100 * i + wait + slack; duration = 20 + longer })

-- a window in which nothing can be acquired
abbrev pub closed : Window
closed = record { early = 1; late = 0; duration = 20 }

-- the window of strip i in direction 1: it is open for the third and the fourth strip of each four
unfoldable pub a_back_window : ℕ → Draw Window
a_back_window i = if nat_le 2 (i % 4) then a_window i else give closed

-- the twin of strip i, where there are `size` strips: the third and the fourth of each four are twins, if both are there
unfoldable pub twin_of : ℕ → ℕ → Option ℕ
twin_of size i =
    if i % 4 == 3 then Some (i - 1) else (if (i % 4 == 2) && nat_lt (i + 1) size then Some (i + 1) else None)

-- strip i of `size`, with its offset: each four strips are of one request. The area is drawn first, then the offset, and
-- then the windows.
unfoldable pub a_placed_strip : ℕ → ℕ → Draw Placed
a_placed_strip size i = do
  area ← draw 100
  offset ← draw 51
  forth ← a_window i
  back ← a_back_window i
  give (record {
    strip = record { request = i / 4; twin = twin_of size i; area = 1 + area; windows = forth ∷ back ∷ [] };
    offset = offset;
  })

-- how far apart two offsets are
abbrev pub apart : ℕ → ℕ → ℕ
apart a b = (a - b) + (b - a)

-- the manoeuvre time from x to y, by the offsets of the strips: none within a strip, and 5 ticks more for a change of
-- direction
unfoldable pub time_between : List ℕ → ℕ → ℕ → ℕ
time_between offsets x y =
    if strip_of x == strip_of y then 0
    else 10 + apart (slice_index offsets (strip_of x)) (slice_index offsets (strip_of y))
    + (if direction_of x == direction_of y then 0 else 5)

-- a square of n rows and columns, the rows one after another: f x y in row x at column y
unfoldable pub in_rows : ℕ → (ℕ → ℕ → ℕ) → List ℕ
in_rows n f = map (λ k. f (k / n) (k % n)) (range_with_len 0 (n * n))

-- The requests are drawn first, one for each four strips that are begun, and then the strips.
unfoldable pub an_orbit : ℕ → Draw Orbit
an_orbit size = do
  requests ← in_order (λ _. a_request) ((size + 3) / 4)
  placed ← in_order (a_placed_strip size) size
  let offsets = map (λ p. p.offset) placed
  give (record {
    requests = requests;
    strips = map (λ p. p.strip) placed;
    table = record { size = 2 * size; entries = in_rows (2 * size) (time_between offsets) };
  })

-- the instance of a seed, which is the first state, and a number of strips
unfoldable pub made : ℕ → ℕ → Orbit
made seed size = (an_orbit size seed).value
