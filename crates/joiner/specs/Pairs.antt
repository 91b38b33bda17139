-- Which pairs of a list of forward labels and a list of backward ones join, which of them gains most, and which forward one is
-- the first to join over a floor.
use Rattle.std.specs.Prelude.{◌≡◌, ℕ, zero, suc, ◌<◌, ◌≤◌, List, length, slice_get, Option, None, Some, MatchOption}
use Rattle.joiner.specs.declared.over.Over.{Over}
use Rattle.joiner.specs.declared.pair.Pair.{Pair}
use Rattle.label.specs.Labels.{path_of}
use Rattle.label.specs.declared.label.Label.{Label}
use Rattle.strip_model.specs.Join.{Joins, join_gain}
use Rattle.strip_model.specs.Orbit.{Orbit}

-- Places in a list of labels with its root: 0 is the root, and k + 1 is label k.
abbrev pub place_of : Option ℕ → ℕ
place_of None = 0
place_of (Some k) = suc k

abbrev pub label_at : List Label → ℕ → Option Label
label_at labels zero = None
label_at labels (suc k) = slice_get labels k

-- the path at a place
abbrev pub path_at : List Label → ℕ → List ℕ
path_at labels place = path_of (label_at labels place)

-- The pair gains no less than this, and as much only at a place that isn't later: by the forward place, then by the backward.
pub record IsNoWorse (p : Pair) (gain forward backward : ℕ) : Type 0 where
  pub no_less : gain ≤ p.gain
  pub no_later : gain ≡ p.gain → place_of p.forward ≤ forward
  pub then_no_later : gain ≡ p.gain → place_of p.forward ≡ forward → place_of p.backward ≤ backward

-- a pair of the lists that joins, with what it gains
pub record IsPair (J : Orbit) (forward backward : List Label) (p : Pair) : Type 0 where
  pub forward_there : place_of p.forward ≤ length forward
  pub backward_there : place_of p.backward ≤ length backward
  pub joins : Joins J (path_at forward (place_of p.forward)) (path_at backward (place_of p.backward))
  pub gains : p.gain ≡ join_gain J (path_at forward (place_of p.forward)) (path_at backward (place_of p.backward))

-- of the pairs that join the first that gains most, which is more than the floor
pub record IsGreatest (J : Orbit) (forward backward : List Label) (floor : ℕ) (p : Pair) : Type 0 where
  pub pair : IsPair J forward backward p
  pub above : floor < p.gain
  pub greatest : (i j : ℕ) → i ≤ length forward → j ≤ length backward → Joins J (path_at forward i) (path_at backward j)
      → IsNoWorse p (join_gain J (path_at forward i) (path_at backward j)) i j

-- a forward path joins with no backward one for more than the floor
abbrev pub HasNoneOver : Orbit → List ℕ → List Label → ℕ → Type 0
HasNoneOver J path backward floor =
    (j : ℕ) → j ≤ length backward → Joins J path (path_at backward j) → join_gain J path (path_at backward j) ≤ floor

-- no pair that joins gains more than the floor
abbrev pub NoneAbove : Orbit → List Label → List Label → ℕ → Type 0
NoneAbove J forward backward floor = (i : ℕ) → i ≤ length forward → HasNoneOver J (path_at forward i) backward floor

-- The answer of a search for the greatest pair: the first that gains most, or none exactly where none gains more than the
-- floor.
abbrev pub IsBest : Orbit → List Label → List Label → ℕ → Option Pair → Type 0
IsBest J forward backward floor answer = MatchOption answer (NoneAbove J forward backward floor) (IsGreatest J forward backward floor)

-- a forward path joins with some backward one for more than the floor
pub record HasOver (J : Orbit) (path : List ℕ) (backward : List Label) (floor : ℕ) : Type 0 where
  pub with : ℕ
  pub there : with ≤ length backward
  pub joins : Joins J path (path_at backward with)
  pub over : floor < join_gain J path (path_at backward with)

-- the first place of which that holds
pub record IsFirstOver (J : Orbit) (forward backward : List Label) (floor : ℕ) (over : Over) : Type 0 where
  pub there : place_of over.forward ≤ length forward
  pub some : HasOver J (path_at forward (place_of over.forward)) backward floor
  pub none_before : (i : ℕ) → i < place_of over.forward → HasNoneOver J (path_at forward i) backward floor

-- the answer of a search for the first place over the floor: none exactly where no pair gains more than the floor
abbrev pub IsOver : Orbit → List Label → List Label → ℕ → Option Over → Type 0
IsOver J forward backward floor answer = MatchOption answer (NoneAbove J forward backward floor) (IsFirstOver J forward backward floor)
