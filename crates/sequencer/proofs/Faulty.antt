-- A plan with a fault, told by a text.
use Rattle.std.proofs.Common.{◌≡◌, List, ℕ, inr, subst}
use Rattle.plan_check.proofs.EveryText.{one_plan}
use Rattle.plan_check.proofs.Faults.{faultless-Feasible}
use Rattle.plan_check.specs.Fault.{IsFirstFault}
use Rattle.plan_check.specs.PlanText.{IsPlanText}
use Rattle.plan_check.specs.declared.fault.PlanFault.{PlanFault}
use Rattle.sequencer.specs.Scoring.{ScoresRest}
use Rattle.sequencer.specs.Texts.{fault_text}
use Rattle.sequencer.specs.declared.status.Status.TheVariants.{Rejected}
use Rattle.strip_model.specs.Orbit.{Orbit}
use Rattle.strip_model.specs.Plan.{Feasible}
use Rattle.strip_model.specs.declared.acquisition.Acquisition.{Acquisition}

module _ (J : Orbit) (rest : List ℕ) (plan : List Acquisition) (fault : PlanFault) (said : IsPlanText rest plan) (first : IsFirstFault J plan fault) where
  -- the bytes are the text of that plan alone
  no_feasible : (other : List Acquisition) → IsPlanText rest other → Feasible J other → ⊥
  no_feasible other says feasible =
      let here : Feasible J plan = subst (λ (p : List Acquisition). Feasible J p) (one_plan rest other plan says said) feasible in
      faultless-Feasible J plan here fault first.stands

  pub scores_faulty : (text : List ℕ) → text ≡ fault_text fault → ScoresRest J rest text Rejected
  scores_faulty text written =
      inr (record { plan = plan; said = said; fault = fault; first = first; no_plan = no_feasible; written = written })
