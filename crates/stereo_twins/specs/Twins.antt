-- A list of twins has at place i the twin of strip i, if strip i has one. Directed strip x is strip x / 2 in direction x % 2.
use Rattle.std.specs.Prelude.{◌≡◌, ◌≢◌, ℕ, ◌+◌, ◌*◌, ◌/◌, ◌%◌, ◌<◌, ◌≤◌, ◌⊎◌, Bool, true, false, not, ◌&&◌, List, Option, Some, None, slice_index, slice_index_or, length, ◌==◌}
use Rattle.std.specs.List.{list_any}
use Rattle.std.specs.Option.{option_map, option_map_or}
use Rattle.strip_set.specs.declared.strip_set.TheConstants.{MAX_STRIPS}
use Rattle.strip_set.specs.Members.{has, has_strip}

-- the twin of strip i
abbrev pub twin : List (Option ℕ) → ℕ → Option ℕ
twin twins i = slice_index_or twins i None

-- the twin of directed strip x: the twin of its strip, in its direction
abbrev pub partner : List (Option ℕ) → ℕ → Option ℕ
partner twins x = option_map (λ i. 2 * i + x % 2) (twin twins (x / 2))

-- the twin of each strip is a strip
abbrev pub TwinsExist : List (Option ℕ) → Type 0
TwinsExist twins = (i j : ℕ) → twin twins i ≡ Some j → j < length twins

-- there are no more strips than there can be, twins are strips, the twin of a strip's twin is the strip, and no strip is
-- its own twin
pub record IsSound (twins : List (Option ℕ)) : Type 0 where
  pub few : length twins ≤ MAX_STRIPS
  pub exist : TwinsExist twins
  pub returns : (i j : ℕ) → twin twins i ≡ Some j → twin twins j ≡ Some i
  pub differ : (i j : ℕ) → twin twins i ≡ Some j → j ≢ i

-- twins are of one request: the second list has the request of each strip
abbrev pub AreOfOneRequest : List (Option ℕ) → List ℕ → Type 0
AreOfOneRequest twins requests = (i j : ℕ) → twin twins i ≡ Some j → slice_index requests j ≡ slice_index requests i

-- ---- the twin's part in a path, of which `path` has the directed strips in any order

-- directed strip x may join: its strip is new, and where its twin is there, it is there in the direction of x
pub record Admits (twins : List (Option ℕ)) (path : List ℕ) (x : ℕ) : Type 0 where
  pub new_strip : has_strip (x / 2) path ≡ false
  pub agrees : (y : ℕ) → has y path ≡ true → twin twins (x / 2) ≡ Some (y / 2) → y % 2 ≡ x % 2

-- directed strip x may not join: its strip is there, or its twin is there in the other direction
abbrev pub Refuses : List (Option ℕ) → List ℕ → ℕ → Type 0
Refuses twins path x =
    (has_strip (x / 2) path ≡ true) ⊎ ((y : ℕ) × (has y path ≡ true) × (twin twins (x / 2) ≡ Some (y / 2)) × (y % 2 ≢ x % 2))

-- the strip of x has a twin that isn't in the path, in either direction
abbrev pub lacks_twin : List (Option ℕ) → List ℕ → ℕ → Bool
lacks_twin twins path x = option_map_or (λ i. not (has_strip i path)) (twin twins (x / 2)) false

-- Open: the directed strips of the path whose strip has a twin that isn't in the path
abbrev pub is_open : List (Option ℕ) → List ℕ → ℕ → Bool
is_open twins path x = has x path && lacks_twin twins path x

-- Needs: the twins, in the same direction, of the directed strips of a list
abbrev pub is_need : List (Option ℕ) → List ℕ → ℕ → Bool
is_need twins list y = list_any (λ x. option_map_or (λ z. z == y) (partner twins x) false) list
