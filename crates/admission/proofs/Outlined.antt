-- The outline that comes from a brief, where the side at hand is that of a core.
use Rattle.std.proofs.Common.{◌≡◌, ℕ, List, sym, subst}
use Rattle.label.specs.Briefs.{IsBrief, IsBriefOf}
use Rattle.label.specs.Outlines.{IsOutlineOf}
use Rattle.label.specs.declared.briefs.Brief.{Brief}
use Rattle.label.specs.declared.outline.Outline.{Outline}
use Rattle.strip_model.specs.LabelPath.{LabelPath}
use Rattle.strip_model.specs.Side.{Face}

-- the brief is one of the side
pub brief_at : (S T : Face) (b : Brief) (path : List ℕ) → S ≡ T → LabelPath T path → IsBriefOf T b path → IsBrief S b
brief_at S T b path same is_path brief = subst (λ (U : Face). IsBrief U b) (sym same) (path, is_path, brief)

-- and the outline is that of its path
pub outline_at : (S T : Face) (b : Brief) (o : Outline) (path : List ℕ) → S ≡ T → LabelPath T path → IsBriefOf T b path
    → ((p : List ℕ) → LabelPath S p → IsBriefOf S b p → IsOutlineOf S o p) → IsOutlineOf S o path
outline_at S T b o path same is_path brief outline =
    outline path (subst (λ (U : Face). LabelPath U path) (sym same) is_path) (subst (λ (U : Face). IsBriefOf U b path) (sym same) brief)
