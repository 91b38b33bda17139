-- What a search has found where it ends, and how it began.
use Rattle.std.specs.Prelude.{◌≡◌, ℕ, ◌≤◌}
use Rattle.closer.specs.Finishing.{Finishes}
use Rattle.closer.specs.declared.outcome.Outcome.{Outcome}
use Rattle.closer.specs.declared.outcome.Outcome.TheVariants.{Optimal, Open}
use Rattle.label_core.specs.CoreState.{opening}
use Rattle.label_core.specs.Machine.{Machine, IsReached, count_of}
use Rattle.admission.specs.CarefulRuns.{GoesQuietly}
use Rattle.proof_log.specs.declared.limits.TheConstants.{MAX_LABELS}
use Rattle.sequencer.specs.Searching.{searched}
use Rattle.strip_model.specs.Orbit.{Orbit}

-- the machine with which a search has ended
abbrev pub last_of : Outcome → Machine
last_of (Optimal t) = t
last_of (Open t) = t

-- the search has begun: what leads here from the opening state inserts no label
pub record IsBegun (J : Orbit) (cut : ℕ) (m : Machine) : Type 0 where
  pub instance : m.instance ≡ J
  pub cut_is : m.cut ≡ cut
  pub quiet : GoesQuietly (searched J cut opening) m

-- one thread did the whole search, which began without labels
pub record IsFoundAlone (budget : ℕ) (J : Orbit) (cut : ℕ) (outcome : Outcome) : Type 0 where
  pub start : Machine
  pub begun : IsBegun J cut start
  pub finishes : Finishes budget start outcome

-- one thread went on to the end from where a legal run leads, whatever labels were there
pub record IsFoundFrom (budget : ℕ) (J : Orbit) (cut : ℕ) (outcome : Outcome) : Type 0 where
  pub start : Machine
  pub instance : start.instance ≡ J
  pub cut_is : start.cut ≡ cut
  pub reached : IsReached start
  pub finishes : Finishes budget start outcome

-- What a search with so many workers has found: a text can tell its labels, and without workers one thread did it all.
pub record IsFound (workers budget : ℕ) (J : Orbit) (cut : ℕ) (outcome : Outcome) : Type 0 where
  pub found : IsFoundFrom budget J cut outcome
  pub in_text : count_of (last_of outcome).state ≤ MAX_LABELS
  pub alone : workers ≡ 0 → IsFoundAlone budget J cut outcome
