use Rattle.std.proofs.Common.{◌≤◌, ◌-◌, map, All, length}
use Rattle.plan_check.specs.PlanText.{acquisition_line, IsAcquisitionInText}
use Rattle.proof_log.specs.AnswerReading.{Passes}
use Rattle.proof_log.specs.AnswerRefusal.{plan_stage}
use Rattle.proof_log.proofs.front.read_acquisitions.Given as goal

-- the lines of the acquisitions so far were read, and the next one begins
abbrev pub invariant-loop-plan : goal.invariant-loop-plan
invariant-loop-plan l = record {
  few : length l.plan.items ≤ l.wanted;
  in_range : All IsAcquisitionInText l.plan.items;
  passes : Passes (plan_stage l.wanted) (plan_stage (l.wanted - length l.plan.items)) (map acquisition_line l.plan.items) l.initial.reader l.reader;
}

abbrev pub decreases-loop-plan : goal.decreases-loop-plan
decreases-loop-plan l = l.wanted - length l.plan.items
