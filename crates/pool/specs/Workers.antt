-- Workers, as rounds see them.
use Rattle.std.specs.Prelude.{ℕ}
use Rattle.board.specs.Passes.{BoardName}

-- a worker, or all of them: the board, and the weight of the passes
pub record WorkerName : Type 0 where
  pub board : BoardName
  pub weight : ℕ
