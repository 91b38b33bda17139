-- What a label is in brief.
use Rattle.std.specs.Prelude.{◌≡◌, ℕ, List}
use Rattle.label.specs.declared.briefs.Brief.{Brief}
use Rattle.strip_model.specs.Directed.{has}
use Rattle.strip_model.specs.LabelPath.{LabelPath}
use Rattle.strip_model.specs.Side.{Face}
use Rattle.strip_model.specs.Starts.{Root, After, place_after}

-- the brief is that of this path on this side: it has the path's last acquisition and its directed strips
pub record IsBriefOf (S : Face) (brief : Brief) (path : List ℕ) : Type 0 where
  pub at : place_after S.instance Root path ≡ After brief.start brief.last
  pub visited : (y : ℕ) → has y brief.visited ≡ has y path

-- the brief is that of a label path of this side
abbrev pub IsBrief : Face → Brief → Type 0
IsBrief S brief = (path : List ℕ) × LabelPath S path × IsBriefOf S brief path
