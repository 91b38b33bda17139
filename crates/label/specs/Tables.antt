-- What a side keeps beside its value, so that no call works it out again.
use Rattle.std.specs.Prelude.{◌≡◌, ℕ, ◌+◌, ◌-◌, ◌*◌, ◌<◌, ◌==◌, ◌&&◌, nat_lt, nat_le, if◌then◌else◌, Bool, List, [], Option, is_some, length, slice_index_or}
use Rattle.label.specs.Labels.{IsFace}
use Rattle.strip_model.specs.Directed.{strip_of, has}
use Rattle.strip_model.specs.Orbit.{Orbit, early_at, late_at, duration_at, manoeuvre_at, request_at, twin_at}
use Rattle.strip_model.specs.Side.{Face}
use Rattle.strip_model.specs.Twins.{twins_of}

-- the time from the start of an acquisition of x until the satellite is ready to acquire y
abbrev pub step_at : Orbit → ℕ → ℕ → ℕ
step_at J x y = duration_at J x + manoeuvre_at J x y

-- One more than the latest start of x after which y can still begin in its window, and 0 where there is none: the window of y
-- is closed, or the satellite is ready too late after any start.
abbrev pub deadline_at : Orbit → ℕ → ℕ → ℕ
deadline_at J x y = if nat_le (early_at J y) (late_at J y) then late_at J y + 1 - step_at J x y else 0

-- the entry of row x and column y in a table with a row and a column for each directed strip, the rows one after another
abbrev pub entry_in : Orbit → List ℕ → ℕ → ℕ → ℕ
entry_in J entries x y = slice_index_or entries (x * (2 * length J.strips) + y) 0

-- the table has this entry for each two directed strips
pub record AreEntries (J : Orbit) (entry : ℕ → ℕ → ℕ) (entries : List ℕ) : Type 0 where
  pub square : length entries ≡ (2 * length J.strips) * (2 * length J.strips)
  pub each : (x y : ℕ) → strip_of x < length J.strips → strip_of y < length J.strips → entry_in J entries x y ≡ entry x y

-- whether i is a strip of request r
abbrev pub is_strip_of : Orbit → ℕ → ℕ → Bool
is_strip_of J r i = nat_lt i (length J.strips) && request_at J i == r

-- the strips of each request, by request
pub record AreStripsOf (J : Orbit) (members : List (List ℕ)) : Type 0 where
  pub one_each : length members ≡ length J.requests
  pub each : (r i : ℕ) → r < length J.requests → has i (slice_index_or members r []) ≡ is_strip_of J r i

-- these are the directed strips whose strip has a twin
abbrev pub ArePaired : Orbit → List ℕ → Type 0
ArePaired J paired = (y : ℕ) → has y paired ≡ is_some (twin_at J (strip_of y))

-- The side is sound, the twins are those of its strips, both tables have their entries, the members of each request are its
-- strips, and those that have a twin are known.
pub record IsSide (S : Face) (twins : List (Option ℕ)) (steps deadlines : List ℕ) (members : List (List ℕ)) (paired : List ℕ) : Type 0 where
  pub face : IsFace S
  pub of_strips : twins ≡ twins_of S.instance
  pub are_steps : AreEntries S.instance (step_at S.instance) steps
  pub are_deadlines : AreEntries S.instance (deadline_at S.instance) deadlines
  pub are_members : AreStripsOf S.instance members
  pub are_paired : ArePaired S.instance paired
