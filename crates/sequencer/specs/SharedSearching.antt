-- What a search by workers on a board comes to.
use Rattle.std.specs.Prelude.{ℕ, ◌≤◌, List, Contains}
use Rattle.board.specs.Passes.{BoardName, BoardPass, gain, lock_at}
use Rattle.bucket.specs.Histories.{Inserts}
use Rattle.bucket.specs.declared.trace.Trace.{Trace}
use Rattle.closer.specs.Finishing.{Finishes}
use Rattle.closer.specs.declared.outcome.Outcome.{Outcome}
use Rattle.label_core.specs.CoreState.{IsListed, opening}
use Rattle.label_core.specs.Machine.{Machine}
use Rattle.label_core.specs.Traces.{trace_run, last_state, IsLegalRun}
use Rattle.pool.specs.Running.{IsRun}
use Rattle.sequencer.specs.Finding.{last_of}
use Rattle.sequencer.specs.Searching.{searched}
use Rattle.strip_model.specs.Plan.{gain_of}
use Rattle.strip_model.specs.declared.end.End.{End}

-- the machine to which a trace of this board leads
abbrev pub traced : BoardName → Trace → Machine
traced b trace = searched b.instance b.forward.side.cut (last_state b.instance opening (trace_run b.instance trace))

-- the pass has seen a label with this path inserted
abbrev pub IsInsertionSeen : BoardPass → End → List ℕ → Type 0
IsInsertionSeen p e path = (k : ℕ) × (id : ℕ) × Contains (lock_at p e k).seen (Inserts id path)

-- The workers left a trace of the board, whose events are a legal run, and one thread went on from its last state to where the search
-- ended. Each label path whose insertion the given pass had seen is there, and the plan gains no less than each plan that the pass
-- and those joined into it had offered.
pub record IsSearched (b : BoardName) (pass : BoardPass) (budget : ℕ) (outcome : Outcome) : Type 0 where
  pub trace : Trace
  pub run : IsRun b pass trace
  pub legal : IsLegalRun b.instance b.forward.side.cut opening (trace_run b.instance trace)
  pub finishes : Finishes budget (traced b trace) outcome
  pub kept : (e : End) (path : List ℕ) → IsInsertionSeen pass e path → IsListed (last_of outcome).state e path
  pub gains : gain pass.plan ≤ gain_of b.instance (last_of outcome).state.incumbent
