-- How a list keeps its labels: all paths stand one after another, and a record of each label says where its path stands.
use Rattle.std.specs.Prelude.{ℕ, ◌-◌, ◌≤◌, List, length, map, take, drop}
use Rattle.std.specs.List.{All}
use Rattle.label.specs.Briefs.{IsBriefOf}
use Rattle.label.specs.declared.limits.TheConstants.{MAX_LISTED}
use Rattle.label_list.specs.Keys.{IsIndexOf}
use Rattle.label_list.specs.Labels.{Held, Listed}
use Rattle.label_list.specs.declared.path_index.PathIndex.{PathIndex}
use Rattle.label_list.specs.declared.record.Record.{Record}
use Rattle.strip_model.specs.LabelPath.{LabelPath}
use Rattle.strip_model.specs.Side.{Face}

-- where the path of a label stands
abbrev pub path_in : List ℕ → Record → List ℕ
path_in steps r = take (r.to - r.from) (drop r.from steps)

-- what contracts see of a label
abbrev pub held_in : List ℕ → Record → Held
held_in steps r = record { path = path_in steps r; state = r.state }

-- the paths of all labels, by id
abbrev pub paths_in : List ℕ → List Record → List (List ℕ)
paths_in steps rs = map (path_in steps) rs

-- what contracts see of all
abbrev pub all_held : List ℕ → List Record → List Held
all_held steps rs = map (held_in steps) rs

-- the list that is kept so
abbrev pub listed : Face → List ℕ → List Record → Listed
listed S steps rs = record { face = S; labels = all_held steps rs }

-- the record says a place in the list of directed strips
pub record IsWithin (steps : List ℕ) (r : Record) : Type 0 where
  pub order : r.from ≤ r.to
  pub inside : r.to ≤ length steps

-- the record is that of a label of the side
pub record IsRecord (S : Face) (steps : List ℕ) (r : Record) : Type 0 where
  pub within : IsWithin steps r
  pub is_path : LabelPath S (path_in steps r)
  pub brief : IsBriefOf S r.brief (path_in steps r)

-- What a list keeps: a record for each label, an index of their paths, and not too many.
pub record Keeps (S : Face) (steps : List ℕ) (rs : List Record) (index : PathIndex) : Type 0 where
  pub records : All (IsRecord S steps) rs
  pub index_of : IsIndexOf (paths_in steps rs) index
  pub few : length rs ≤ MAX_LISTED
