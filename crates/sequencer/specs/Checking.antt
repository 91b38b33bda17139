-- What `check` answers to the whole of its input.
use Rattle.std.specs.Prelude.{◌≡◌, ◌⊎◌, ℕ, List, drop, Some}
use Rattle.instance_text.specs.Text.{IsFront}
use Rattle.log_check.specs.Faults.{Rule, number_of, IsFirstFault}
use Rattle.proof_log.specs.AnswerRefusal.{text_fault}
use Rattle.proof_log.specs.AnswerText.{IsLogText}
use Rattle.proof_log.specs.Rules.{IsProof}
use Rattle.proof_log.specs.declared.log.Log.{Log}
use Rattle.proof_log.specs.declared.refusal.LogCause.{LogCause}
use Rattle.sequencer.specs.Scoring.{HasNoInstance}
use Rattle.sequencer.specs.Texts.{accepted_text, rule_text}
use Rattle.sequencer.specs.declared.status.Status.{Status}
use Rattle.sequencer.specs.declared.status.Status.TheVariants.{Done, Refused, Rejected}
use Rattle.strip_model.specs.Optimal.{Optimal}
use Rattle.strip_model.specs.Orbit.{Orbit}
use Rattle.strip_model.specs.Plan.{gain_of}

-- The rest of the input is the answer of a log that is a proof, so its plan is optimal. The text says so, with the plan's
-- gain.
pub record IsAccepted (J : Orbit) (rest text : List ℕ) : Type 0 where
  pub log : Log
  pub said : IsLogText rest log
  pub proof : IsProof J log
  pub optimal : Optimal J log.plan.items
  pub written : text ≡ accepted_text (gain_of J log.plan.items)

-- the rest is no answer of a log, and the text names its first bad line, as place of rule 0
pub record IsNoLog (rest text : List ℕ) : Type 0 where
  pub line : ℕ
  pub cause : LogCause
  pub bad : text_fault rest ≡ Some (line, cause)
  pub no_log : (log : Log) → IsLogText rest log → ⊥
  pub written : text ≡ rule_text 0 line

-- the rest is the answer of a log that breaks a rule, and the text names the first that it breaks, and where first
pub record IsNoProof (J : Orbit) (rest text : List ℕ) : Type 0 where
  pub log : Log
  pub said : IsLogText rest log
  pub rule : Rule
  pub place : ℕ
  pub first : IsFirstFault J log rule place
  pub no_proof : IsProof J log → ⊥
  pub written : text ≡ rule_text (number_of rule) place

-- what is answered to the rest, behind the text of J
abbrev pub ChecksRest : Orbit → List ℕ → List ℕ → Status → Type 0
ChecksRest J rest text Done = IsAccepted J rest text
ChecksRest J rest text Rejected = IsNoLog rest text ⊎ IsNoProof J rest text
ChecksRest J rest text _ = ⊥

-- the input begins with an instance text, and the answer is that to the rest
pub record IsChecked (input text : List ℕ) (status : Status) : Type 0 where
  pub instance : Orbit
  pub front : ℕ
  pub read : IsFront input front instance
  pub rest : ChecksRest instance (drop front input) text status

-- what `check` answers to the whole of its input
abbrev pub Checks : List ℕ → List ℕ → Status → Type 0
Checks input text Done = IsChecked input text Done
Checks input text Rejected = IsChecked input text Rejected
Checks input text Refused = HasNoInstance input text
Checks input text _ = ⊥
