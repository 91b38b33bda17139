-- Tables of manoeuvre times as contracts see them, and the two rules that they keep.
use Rattle.std.specs.Prelude.{◌≡◌, ◌≢◌, ℕ, ◌+◌, ◌*◌, ◌/◌, ◌%◌, ◌<◌, ◌≤◌, List, length, map, All, slice_index_or}
use Rattle.std.specs.List.{range_with_len}
use Rattle.manoeuvre.specs.declared.limits.TheConstants.{MAX_DIRECTED, MAX_MANOEUVRE}

-- A directed strip is a number, twice its strip and its direction, so the strip of x is x / 2.

-- A square table: entry (x, y) stands in row x at column y, the rows one after another.
pub record Grid : Type 0 where
  pub size : ℕ
  pub entries : List ℕ

-- the entry of row x and column y
abbrev pub entry_at : Grid → ℕ → ℕ → ℕ
entry_at t x y = slice_index_or t.entries (x * t.size + y) 0

-- at (x, y): between two directions of one strip, or of a directed strip with itself, the manoeuvre takes no time
abbrev pub SameStripTakesNoTime : Grid → ℕ → ℕ → Type 0
SameStripTakesNoTime t x y = x / 2 ≡ y / 2 → entry_at t x y ≡ 0

-- the same-strip rule: that holds at each place of the table
pub record KeepsSameStrip (t : Grid) : Type 0 where
  pub at_each : (x y : ℕ) → x < t.size → y < t.size → SameStripTakesNoTime t x y

-- three directed strips of three different strips
pub record AreOfThreeStrips (x y z : ℕ) : Type 0 where
  pub first_second : x / 2 ≢ y / 2
  pub second_third : y / 2 ≢ z / 2
  pub first_third : x / 2 ≢ z / 2

-- at (x, y, z): the detour from x to z by y of a third strip, with the duration of y, saves no time
abbrev pub DetourSavesNoTime : (ℕ → ℕ) → Grid → ℕ → ℕ → ℕ → Type 0
DetourSavesNoTime durations t x y z =
    AreOfThreeStrips x y z → entry_at t x z ≤ entry_at t x y + durations y + entry_at t y z

-- the shortcut rule: that holds at all directed strips
pub record KeepsShortcut (durations : ℕ → ℕ) (t : Grid) : Type 0 where
  pub at_each : (x y z : ℕ) → x < t.size → y < t.size → z < t.size → DetourSavesNoTime durations t x y z

-- what each table keeps: two directed strips for each strip, the limits, the shape and the same-strip rule
pub record IsTable (t : Grid) : Type 0 where
  pub even : t.size % 2 ≡ 0
  pub small : t.size ≤ MAX_DIRECTED
  pub square : length t.entries ≡ t.size * t.size
  pub bounded : All (λ m. m ≤ MAX_MANOEUVRE) t.entries
  pub same_strip : KeepsSameStrip t

-- the table turned round: the entry (x, y) stands at (y, x)
unfoldable pub turned : Grid → Grid
turned t = record { size = t.size; entries = map (λ k. entry_at t (k % t.size) (k / t.size)) (range_with_len 0 (t.size * t.size)) }
