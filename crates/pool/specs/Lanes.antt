-- Lanes, and what is ordered in them.
use Rattle.std.specs.Prelude.{◌≡◌, ⊤, ℕ}
use Rattle.std.specs.List.{All}
use Rattle.board.specs.Passes.{BoardName, side_at}
use Rattle.label.specs.Labels.{IsLabelOf}
use Rattle.pool.specs.declared.order.Order.{Order}
use Rattle.pool.specs.declared.order.Order.TheVariants.{Ready, Extend}
use Rattle.strip_model.specs.Side.{Face}

-- a lane: its side, and the number of its bucket
pub record LaneName : Type 0 where
  pub side : Face
  pub number : ℕ

-- the lane's side is that of the board
abbrev pub IsLaneOf : BoardName → LaneName → Type 0
IsLaneOf b lane = lane.side ≡ side_at b lane.side.end

-- the labels that are to be extended are those of the board's sides
abbrev pub IsOrderOf : BoardName → Order → Type 0
IsOrderOf b (Ready forward backward) = ⊤
IsOrderOf b (Extend forward backward) = All (IsLabelOf b.forward.side) forward.now × All (IsLabelOf b.backward.side) backward.now
