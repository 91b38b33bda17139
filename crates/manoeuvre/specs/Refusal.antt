-- Why a table is refused.
use Rattle.std.specs.Prelude.{◌≡◌, ◌≢◌, ℕ, ◌+◌, ◌*◌, ◌/◌, ◌<◌, List, length, slice_index}
use Rattle.manoeuvre.specs.Grid.{Grid, entry_at, SameStripTakesNoTime, KeepsSameStrip, AreOfThreeStrips, DetourSavesNoTime, KeepsShortcut}
use Rattle.manoeuvre.specs.declared.refusal.TableRefusal.{TableRefusal}
use Rattle.manoeuvre.specs.declared.refusal.TableRefusal.TheVariants.{Shape, SameStrip, Shortcut, Memory}

-- the entry (x, y) stands between directions of one strip and takes time
pub record BreaksSameStrip (t : Grid) (x y : ℕ) : Type 0 where
  pub row : x < t.size
  pub column : y < t.size
  pub one_strip : x / 2 ≡ y / 2
  pub takes_time : entry_at t x y ≢ 0

-- (x, y) is the least place that breaks the same-strip rule: no earlier row has one, and no earlier column of this row
pub record IsFirstSameStrip (t : Grid) (x y : ℕ) : Type 0 where
  pub breaks : BreaksSameStrip t x y
  pub rows : (a b : ℕ) → a < x → b < t.size → SameStripTakesNoTime t a b
  pub columns : (b : ℕ) → b < y → SameStripTakesNoTime t x b

-- the detour from x to z by y of a third strip saves time
pub record BreaksShortcut (durations : ℕ → ℕ) (t : Grid) (x y z : ℕ) : Type 0 where
  pub first : x < t.size
  pub second : y < t.size
  pub third : z < t.size
  pub three_strips : AreOfThreeStrips x y z
  pub saves_time : entry_at t x y + durations y + entry_at t y z < entry_at t x z

-- (x, y, z) is the least triple that breaks the shortcut rule: by x first, then by y, then by z
pub record IsFirstShortcut (durations : ℕ → ℕ) (t : Grid) (x y z : ℕ) : Type 0 where
  pub breaks : BreaksShortcut durations t x y z
  pub firsts : (a b c : ℕ) → a < x → b < t.size → c < t.size → DetourSavesNoTime durations t a b c
  pub seconds : (b c : ℕ) → b < y → c < t.size → DetourSavesNoTime durations t x b c
  pub thirds : (c : ℕ) → c < z → DetourSavesNoTime durations t x y c

-- the grid of these entries, with a row and a column for each duration
abbrev pub grid_of : List ℕ → List ℕ → Grid
grid_of durations entries = record { size = length durations; entries = entries }

-- there are as many entries as the grid has places
abbrev pub HasShape : List ℕ → List ℕ → Type 0
HasShape durations entries = length entries ≡ length durations * length durations

-- When each refusal comes, for these durations and entries: the first rule that is broken, at its least place.
-- Memory is taken last, so its want shows that no rule is broken.
abbrev pub IsCause : List ℕ → List ℕ → TableRefusal → Type 0
IsCause durations entries (Shape expected found) =
    (found ≡ length entries) × (expected ≡ length durations * length durations) × (found ≢ expected)
IsCause durations entries (SameStrip x y value) =
    HasShape durations entries × IsFirstSameStrip (grid_of durations entries) x y
    × (value ≡ entry_at (grid_of durations entries) x y)
IsCause durations entries (Shortcut x y z) =
    HasShape durations entries × KeepsSameStrip (grid_of durations entries)
    × IsFirstShortcut (slice_index durations) (grid_of durations entries) x y z
IsCause durations entries Memory =
    HasShape durations entries × KeepsSameStrip (grid_of durations entries)
    × KeepsShortcut (slice_index durations) (grid_of durations entries)
