-- Which directed strips extend a label path.
use Rattle.std.proofs.Common.{◌<◌, ◌*◌, ℕ, List, [], ◌∷◌, ◌++◌, length, arith}
use Rattle.strip_model.proofs.Extending.{MayExtend-last}
use Rattle.strip_model.specs.Directed.{strip_of}
use Rattle.strip_model.specs.LabelPath.{LabelPath}
use Rattle.strip_model.specs.Side.{Face}

-- what extends a label path is one of the side's directed strips
pub extends_within : (S : Face) (path : List ℕ) (y : ℕ) → LabelPath S (path ++ y ∷ []) → y < 2 * length S.instance.strips
extends_within S path y h = let e : strip_of y < length S.instance.strips = (MayExtend-last S path y h).exist in omega arith
