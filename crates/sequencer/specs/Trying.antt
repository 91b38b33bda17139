-- What `trial` answers.
use Rattle.std.specs.Prelude.{◌≡◌, ℕ, List, Option}
use Rattle.inst_maker.specs.Made.{made}
use Rattle.proof_log.specs.declared.log.Log.{Log}
use Rattle.sequencer.specs.Searching.{IsProved, IsUnsettled}
use Rattle.sequencer.specs.Texts.{proved_text, open_text}
use Rattle.sequencer.specs.declared.status.Status.{Status}
use Rattle.sequencer.specs.declared.status.Status.TheVariants.{Done, Best}
use Rattle.strip_model.specs.Plan.{gain_of}
use Rattle.strip_model.specs.declared.acquisition.Acquisition.{Acquisition}

-- A search within the budget on the instance that is made has ended with a log that is a proof, so its plan is optimal. The text
-- tells the plan's gain, and that the checker accepts the log.
pub record IsTriedOut (seed size budget : ℕ) (cut : Option ℕ) (text : List ℕ) : Type 0 where
  pub log : Log
  pub proved : IsProved 0 budget cut (made seed size) log
  pub written : text ≡ proved_text seed size (gain_of (made seed size) log.plan.items)

-- A search within the budget on the instance that is made is still open. The text tells the gain of the plan with which it ended.
pub record IsTriedInPart (seed size budget : ℕ) (cut : Option ℕ) (text : List ℕ) : Type 0 where
  pub plan : List Acquisition
  pub unsettled : IsUnsettled 0 budget cut (made seed size) plan budget
  pub written : text ≡ open_text seed size (gain_of (made seed size) plan)

-- what `trial` answers
abbrev pub Tries : ℕ → ℕ → ℕ → Option ℕ → List ℕ → Status → Type 0
Tries seed size budget cut text Done = IsTriedOut seed size budget cut text
Tries seed size budget cut text Best = IsTriedInPart seed size budget cut text
Tries seed size budget cut text _ = ⊥
