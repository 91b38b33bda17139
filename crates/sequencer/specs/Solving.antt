-- What `solve` answers to the whole of its input.
use Rattle.std.specs.Prelude.{◌≡◌, ℕ, ◌≤◌, List, ◌++◌, length, take, Option}
use Rattle.std.specs.List.{flat_map}
use Rattle.instance_text.specs.LineEnds.{with_line_end}
use Rattle.instance_text.specs.Refusal.{IsRefusal}
use Rattle.instance_text.specs.Text.{IsText, IsFront}
use Rattle.instance_text.specs.declared.refusal.Refusal.{Refusal}
use Rattle.proof_log.specs.AnswerText.{best_lines, IsLogText}
use Rattle.proof_log.specs.declared.log.Log.{Log}
use Rattle.seq_io.specs.Line.{spelled_line}
use Rattle.sequencer.specs.Checking.{Checks}
use Rattle.sequencer.specs.Searching.{IsProved, IsUnsettled}
use Rattle.sequencer.specs.Texts.{accepted_text, refusal_text}
use Rattle.sequencer.specs.declared.limits.TheConstants.{MAX_SOLVE_INPUT, MAX_CHECK_INPUT}
use Rattle.sequencer.specs.declared.status.Status.{Status}
use Rattle.sequencer.specs.declared.status.Status.TheVariants.{Done, Best, Refused}
use Rattle.strip_model.specs.Orbit.{Orbit}
use Rattle.strip_model.specs.Plan.{gain_of}
use Rattle.strip_model.specs.declared.acquisition.Acquisition.{Acquisition}

-- The input begins with the text of J. With LF after its last line, this front followed by the answer is accepted by `check`, for
-- this gain, and `check` has no other answer to it. It isn't too long for `check`, where the input isn't too long for `solve`.
pub record IsAcceptedBehind (J : Orbit) (input text : List ℕ) (gain : ℕ) : Type 0 where
  pub front : ℕ
  pub is_front : IsFront input front J
  pub accepted : Checks (with_line_end (take front input) ++ text) (accepted_text gain) Done
  pub only : (answer : List ℕ) (status : Status) → Checks (with_line_end (take front input) ++ text) answer status → status ≡ Done
  pub fits : length input ≤ MAX_SOLVE_INPUT → length (with_line_end (take front input) ++ text) ≤ MAX_CHECK_INPUT

-- The input is an instance text, and the text is the answer of a log that a search ended with: its plan is
-- optimal, and `check` accepts it behind the instance.
pub record IsSolved (workers budget : ℕ) (cut : Option ℕ) (input text : List ℕ) : Type 0 where
  pub instance : Orbit
  pub read : IsText input instance
  pub log : Log
  pub said : IsLogText text log
  pub proved : IsProved workers budget cut instance log
  pub checked : IsAcceptedBehind instance input text (gain_of instance log.plan.items)

-- The input is an instance text, and the text tells the plan with which a search ended that is still open, its gain, and the
-- number of labels.
pub record IsLeftOpen (workers budget : ℕ) (cut : Option ℕ) (input text : List ℕ) : Type 0 where
  pub instance : Orbit
  pub read : IsText input instance
  pub plan : List Acquisition
  pub labels : ℕ
  pub unsettled : IsUnsettled workers budget cut instance plan labels
  pub written : text ≡ flat_map spelled_line (best_lines (gain_of instance plan) plan labels)

-- the input is no instance text, and the text says why
pub record IsNoInstance (input text : List ℕ) : Type 0 where
  pub refusal : Refusal
  pub cause : IsRefusal input refusal
  pub no_text : (J : Orbit) → IsText input J → ⊥
  pub written : text ≡ refusal_text refusal

-- what `solve` answers to the whole of its input
abbrev pub Solves : ℕ → ℕ → Option ℕ → List ℕ → List ℕ → Status → Type 0
Solves workers budget cut input text Done = IsSolved workers budget cut input text
Solves workers budget cut input text Best = IsLeftOpen workers budget cut input text
Solves workers budget cut input text Refused = IsNoInstance input text
Solves workers budget cut input text _ = ⊥
