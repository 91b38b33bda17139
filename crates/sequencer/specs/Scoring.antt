-- What `score` answers to the whole of its input.
use Rattle.std.specs.Prelude.{◌≡◌, ◌⊎◌, ℕ, List, drop, codes}
use Rattle.instance_text.specs.Refusal.{IsFrontRefusal}
use Rattle.instance_text.specs.Text.{IsFront}
use Rattle.instance_text.specs.declared.refusal.Refusal.{Refusal}
use Rattle.plan_check.specs.Fault.{IsFirstFault}
use Rattle.plan_check.specs.PlanText.{IsPlanText}
use Rattle.plan_check.specs.Refusal.{IsFirstBadLine}
use Rattle.plan_check.specs.declared.fault.PlanFault.{PlanFault}
use Rattle.sequencer.specs.Texts.{gain_text, refusal_text, rejection_text, fault_text}
use Rattle.sequencer.specs.declared.status.Status.{Status}
use Rattle.sequencer.specs.declared.status.Status.TheVariants.{Done, Refused, Rejected}
use Rattle.strip_model.specs.Orbit.{Orbit}
use Rattle.strip_model.specs.Plan.{Feasible, gain_of}
use Rattle.strip_model.specs.declared.acquisition.Acquisition.{Acquisition}

-- the rest of the input is the text of a feasible plan, and the text is its gain
pub record IsScored (J : Orbit) (rest text : List ℕ) : Type 0 where
  pub plan : List Acquisition
  pub said : IsPlanText rest plan
  pub feasible : Feasible J plan
  pub written : text ≡ gain_text (gain_of J plan)

-- the rest is no plan text, and the text names its first bad line
pub record IsNoPlan (rest text : List ℕ) : Type 0 where
  pub line : ℕ
  pub bad : IsFirstBadLine rest line
  pub written : text ≡ rejection_text (codes "text") line

-- the rest is the text of a plan that isn't feasible, and of no feasible one, and the text names its first fault
pub record IsFaulty (J : Orbit) (rest text : List ℕ) : Type 0 where
  pub plan : List Acquisition
  pub said : IsPlanText rest plan
  pub fault : PlanFault
  pub first : IsFirstFault J plan fault
  pub no_plan : (other : List Acquisition) → IsPlanText rest other → Feasible J other → ⊥
  pub written : text ≡ fault_text fault

-- what is answered to the rest, behind the text of J
abbrev pub ScoresRest : Orbit → List ℕ → List ℕ → Status → Type 0
ScoresRest J rest text Done = IsScored J rest text
ScoresRest J rest text Rejected = IsNoPlan rest text ⊎ IsFaulty J rest text
ScoresRest J rest text _ = ⊥

-- the input begins with an instance text, and the answer is that to the rest
pub record IsJudged (input text : List ℕ) (status : Status) : Type 0 where
  pub instance : Orbit
  pub front : ℕ
  pub read : IsFront input front instance
  pub rest : ScoresRest instance (drop front input) text status

-- the input begins with no instance text, and the text says why
pub record HasNoInstance (input text : List ℕ) : Type 0 where
  pub refusal : Refusal
  pub cause : IsFrontRefusal input refusal
  pub no_front : (front : ℕ) (J : Orbit) → IsFront input front J → ⊥
  pub written : text ≡ refusal_text refusal

-- what `score` answers to the whole of its input
abbrev pub Scores : List ℕ → List ℕ → Status → Type 0
Scores input text Done = IsJudged input text Done
Scores input text Rejected = IsJudged input text Rejected
Scores input text Refused = HasNoInstance input text
Scores input text _ = ⊥
