-- What a run of all workers leaves.
use Rattle.board.specs.Passes.{BoardName, BoardPass}
use Rattle.board.specs.Sharing.{IsClosed}
use Rattle.bucket.specs.declared.trace.Trace.{Trace}
use Rattle.pool.specs.Growth.{Grows}

-- The trace is what the board leaves when it is closed with a pass into which the given one has grown. So its histories begin with
-- what that one had seen and have its parties' entries, and its plan gains no less than each plan that they offered.
pub record IsRun (b : BoardName) (pass : BoardPass) (trace : Trace) : Type 0 where
  pub last : BoardPass
  pub grows : Grows pass last
  pub closed : IsClosed b last trace
