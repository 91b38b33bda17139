-- What a search for an optimal plan comes to.
use Rattle.std.specs.Prelude.{◌≡◌, ℕ, ◌/◌, ◌<◌, ◌≤◌, ⊤, false, List, length, Option, unwrap_or}
use Rattle.std.specs.List.{flat_map}
use Rattle.closer.specs.Finishing.{IsAtRest, IsOpen}
use Rattle.label_core.specs.CoreState.{CoreState, opening}
use Rattle.label_core.specs.Machine.{Machine, IsReached, count_of}
use Rattle.admission.specs.CarefulRuns.{GoesCarefully}
use Rattle.proof_log.specs.AnswerText.{best_lines, label_count, IsLogInText, IsLogText}
use Rattle.proof_log.specs.Labels.{paths_in, path_at, is_marked}
use Rattle.proof_log.specs.Rules.{IsProof}
use Rattle.proof_log.specs.declared.limits.TheConstants.{MAX_LABELS}
use Rattle.proof_log.specs.declared.log.Log.{Log}
use Rattle.seq_io.specs.Line.{spelled_line}
use Rattle.sequencer.specs.declared.solution.Solution.{Solution}
use Rattle.sequencer.specs.declared.solution.Solution.TheVariants.{Optimal as Proved, Open}
use Rattle.sequencer.specs.declared.status.Status.{Status}
use Rattle.sequencer.specs.declared.status.Status.TheVariants.{Done, Best}
use Rattle.strip_model.specs.Dominance.{Dominates}
use Rattle.strip_model.specs.Horizon.{horizon_of}
use Rattle.strip_model.specs.Optimal.{Optimal}
use Rattle.strip_model.specs.Orbit.{Orbit}
use Rattle.strip_model.specs.PathCount.{path_count_of}
use Rattle.strip_model.specs.Plan.{Feasible, gain_of}
use Rattle.strip_model.specs.Reach.{bound}
use Rattle.strip_model.specs.Side.{facing}
use Rattle.strip_model.specs.Starts.{HasEarliestStarts}
use Rattle.strip_model.specs.declared.acquisition.Acquisition.{Acquisition}
use Rattle.strip_model.specs.declared.end.End.{End}

-- the cut: the one that is given, or half the horizon, rounded down
abbrev pub cut_for : Orbit → Option ℕ → ℕ
cut_for J cut = unwrap_or cut (horizon_of J / 2)

-- a label of the log without a mark
pub record IsUnmarked (log : Log) (e : End) (k : ℕ) : Type 0 where
  pub there : k < length (paths_in log e)
  pub unmarked : is_marked e k log.marks.items ≡ false

-- No label without a mark is needless: none dominates another of its side, and the bound of each exceeds the gain.
pub record HasNoNeedless (J : Orbit) (log : Log) : Type 0 where
  pub antichain : (e : End) (j k : ℕ) → IsUnmarked log e j → IsUnmarked log e k
      → Dominates (facing J e) (path_at log e j) (path_at log e k) → j ≡ k
  pub bounds : (e : End) (k : ℕ) → IsUnmarked log e k → log.gain < bound (facing J e) (path_at log e k)

-- A search has ended with this log: it has the cut, is a proof and fits into a text. Its plan is optimal, with earliest starts, and
-- the gain is that of the plan. Without workers there are no more labels than the budget.
pub record IsProved (workers budget : ℕ) (cut : Option ℕ) (J : Orbit) (log : Log) : Type 0 where
  pub cut_is : log.cut ≡ cut_for J cut
  pub proof : IsProof J log
  pub optimal : Optimal J log.plan.items
  pub earliest : HasEarliestStarts J log.plan.items
  pub gain : log.gain ≡ gain_of J log.plan.items
  pub needed : HasNoNeedless J log
  pub within : workers ≡ 0 → label_count log ≤ budget
  pub in_text : IsLogInText log

-- a state of a search on the instance with this cut
abbrev pub searched : Orbit → ℕ → CoreState → Machine
searched J cut s = record { instance = J; cut = cut; state = s }

-- A search has ended with this plan and so many labels, still open: the plan is feasible, with earliest starts. A legal run leads
-- from the opening state to one that has it as its incumbent, and these labels, no fewer than the budget. There no two live labels
-- or roots join to more, no live label dominates another, and each one's bound exceeds the gain; and still an extension of a live
-- label or root is missing. So the labels are fewer than the label paths. Without workers they are as many as the budget, and
-- the run is careful.
pub record IsUnsettled (workers budget : ℕ) (cut : Option ℕ) (J : Orbit) (plan : List Acquisition) (labels : ℕ) : Type 0 where
  pub feasible : Feasible J plan
  pub earliest : HasEarliestStarts J plan
  pub last : CoreState
  pub reached : IsReached (searched J (cut_for J cut) last)
  pub incumbent : last.incumbent ≡ plan
  pub count : count_of last ≡ labels
  pub spent : budget ≤ labels
  pub in_text : labels ≤ MAX_LABELS
  pub rest : IsAtRest (searched J (cut_for J cut) last)
  pub missing : IsOpen (searched J (cut_for J cut) last)
  pub below : labels < path_count_of J (cut_for J cut)
  pub as_many : workers ≡ 0 → labels ≡ budget
  pub careful : workers ≡ 0 → GoesCarefully budget (searched J (cut_for J cut) opening) (searched J (cut_for J cut) last)

-- what a search comes to
abbrev pub IsSolution : ℕ → ℕ → Option ℕ → Orbit → Solution → Type 0
IsSolution workers budget cut J (Proved log) = IsProved workers budget cut J log
IsSolution workers budget cut J (Open plan gain labels) =
    IsUnsettled workers budget cut J plan.items labels × (gain ≡ gain_of J plan.items)

-- its log fits into a text, if it has one
abbrev pub FitsText : Solution → Type 0
FitsText (Proved log) = IsLogInText log
FitsText (Open plan gain labels) = ⊤

-- the text and the status with which it is told
abbrev pub Tells : Solution → List ℕ → Status → Type 0
Tells (Proved log) text status = IsLogText text log × (status ≡ Done)
Tells (Open plan gain labels) text status = (text ≡ flat_map spelled_line (best_lines gain plan.items labels)) × (status ≡ Best)
