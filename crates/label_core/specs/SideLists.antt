-- How a core keeps the labels of a side: a list for each bucket.
use Rattle.std.specs.Prelude.{◌≡◌, ℕ, ◌<◌, List, length, map, set}
use Rattle.label_list.specs.Labels.{Held, Listed, path_of}
use Rattle.strip_model.specs.Side.{Face}

-- one of the labels has the path
abbrev pub HasPath : List Held → List ℕ → Type 0
HasPath labels path = (k : ℕ) × (k < length labels) × (path_of labels k ≡ path)

-- A side of a core: the side, and its labels by bucket.
pub record Sided : Type 0 where
  pub face : Face
  pub buckets : List (List Held)

-- the side with these lists
abbrev pub sided : Face → List Listed → Sided
sided S lists = record { face = S; buckets = map (λ (l : Listed). l.labels) lists }

-- the side with other labels in one bucket
abbrev pub with_bucket : Sided → ℕ → List Held → Sided
with_bucket s b labels = record { face = s.face; buckets = set s.buckets b labels }
