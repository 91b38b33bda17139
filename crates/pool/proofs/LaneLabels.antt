-- What is said of a lane's side, as of the lane later.
use Rattle.std.proofs.Common.{◌≡◌, sym, subst}
use Rattle.pool.specs.Lanes.{LaneName}
use Rattle.strip_model.specs.Side.{Face}

-- where the lane is the one that it was, what was said of its side holds
pub as_lane : (P : Face → Type 0) (now before : LaneName) → now ≡ before → P before.side → P now.side
as_lane P now before same is = subst (λ (n : LaneName). P n.side) (sym same) is
