-- What a side keeps, and what ties a label to its path.
use Rattle.std.specs.Prelude.{◌≡◌, ℕ, ◌<◌, ◌≤◌, true, false, List, [], ◌∷◌, ◌++◌, length, Option, Some, None}
use Rattle.label.specs.declared.label.Label.{Label}
use Rattle.strip_model.specs.Directed.{strip_of, direction_of, has, has_strip}
use Rattle.strip_model.specs.IsInstance.{IsInstance}
use Rattle.strip_model.specs.LabelPath.{LabelPath}
use Rattle.strip_model.specs.Orbit.{Orbit, twin_at}
use Rattle.strip_model.specs.Reach.{is_open}
use Rattle.strip_model.specs.Side.{Face}
use Rattle.strip_model.specs.Starts.{Root, After, arrive, place_after}
use Rattle.strip_model.specs.declared.limits.TheConstants.{MAX_HORIZON}

-- the instance that a side sees keeps what every instance keeps, and the horizon is within its limit
pub record IsFace (S : Face) : Type 0 where
  pub instance : IsInstance S.instance
  pub horizon : S.horizon ≤ MAX_HORIZON

-- A label of this side: its path is a label path, and it keeps the path's last acquisition, its directed strips, and those
-- that are open.
pub record IsLabelOf (S : Face) (l : Label) : Type 0 where
  pub side : l.end ≡ S.end
  pub path : LabelPath S l.path.items
  pub at : place_after S.instance Root l.path.items ≡ After l.start l.last
  pub visited : (y : ℕ) → has y l.visited ≡ has y l.path.items
  pub lone : (y : ℕ) → has y l.lone ≡ is_open S.instance l.path.items y

-- the label is of this side and has this path
abbrev pub IsLabelWith : Face → List ℕ → Label → Type 0
IsLabelWith S path label = (label.path.items ≡ path) × IsLabelOf S label

-- the path of a label that may be there, and the root's where there is none
abbrev pub path_of : Option Label → List ℕ
path_of None = []
path_of (Some l) = l.path.items

-- each directed strip of the list is of a strip that exists
abbrev pub Exist : Orbit → List ℕ → Type 0
Exist J xs = (y : ℕ) → has y xs ≡ true → strip_of y < length J.strips

-- the strip of x is new in the list, and its twin, where it stands there, does so in the direction of x
pub record IsNewIn (J : Orbit) (xs : List ℕ) (x : ℕ) : Type 0 where
  pub new_strip : has_strip (strip_of x) xs ≡ false
  pub agrees : (y : ℕ) → has y xs ≡ true → twin_at J (strip_of x) ≡ Some (strip_of y) → direction_of y ≡ direction_of x

-- the root or label path with x after its last is a label path, and this is the earliest start of x there
pub record IsNext (S : Face) (path : List ℕ) (x start : ℕ) : Type 0 where
  pub label_path : LabelPath S (path ++ x ∷ [])
  pub earliest_start : start ≡ arrive S.instance (place_after S.instance Root path) x
