-- When a search is over.
use Rattle.std.specs.Prelude.{ℕ, ◌≤◌, List, [], ◌∷◌, ◌++◌}
use Rattle.label_core.specs.CoreState.{CoreState, IsListed, IsLivePath}
use Rattle.strip_model.specs.Join.{Joins, join_gain}
use Rattle.strip_model.specs.LabelPath.{LabelPath}
use Rattle.strip_model.specs.Orbit.{Orbit}
use Rattle.strip_model.specs.Plan.{gain_of}
use Rattle.strip_model.specs.Side.{face_of}
use Rattle.strip_model.specs.declared.end.End.{End}
use Rattle.strip_model.specs.declared.end.End.TheVariants.{Forward, Backward}

-- A state is closed: each root and each live label has every label path that extends it by one directed strip in the list of
-- its side, and no two of them that join gain more than the incumbent.
pub record IsClosed (I : Orbit) (H : ℕ) (s : CoreState) : Type 0 where
  pub extended : (e : End) (path : List ℕ) (y : ℕ) → IsLivePath s e path → LabelPath (face_of I H e) (path ++ y ∷ []) → IsListed s e (path ++ y ∷ [])
  pub joined : (f b : List ℕ) → IsLivePath s Forward f → IsLivePath s Backward b → Joins I f b → join_gain I f b ≤ gain_of I s.incumbent
