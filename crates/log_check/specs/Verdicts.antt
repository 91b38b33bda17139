-- What a check finds, rule by rule.
use Rattle.std.specs.Prelude.{◌≡◌, ℕ, ◌<◌}
use Rattle.log_check.specs.Faults.{Rule, number_of, IsKept, IsFirstPlace, IsFirstFault}
use Rattle.log_check.specs.Faults.Rule.{LabelsAreRight}
use Rattle.log_check.specs.Reading.{Read}
use Rattle.log_check.specs.declared.indexing.Indexing.{Indexing}
use Rattle.log_check.specs.declared.indexing.Indexing.TheVariants.{Right, WrongAt}
use Rattle.log_check.specs.declared.verdict.Verdict.{Verdict}
use Rattle.log_check.specs.declared.verdict.Verdict.TheVariants.{Accepted, Rejected}
use Rattle.proof_log.specs.Rules.{IsProof}
use Rattle.proof_log.specs.declared.log.Log.{Log}
use Rattle.strip_model.specs.Orbit.{Orbit}

-- the rules with smaller numbers are kept everywhere
abbrev pub AreKeptBefore : Orbit → Log → ℕ → Type 0
AreKeptBefore I log number = (r : Rule) → number_of r < number → IsKept I log r

-- what was found of the labels: the third rule is kept by the log that was read, or the first place that breaks it
abbrev pub IsIndexing : Read → Indexing → Type 0
IsIndexing r (Right listed) = (listed ≡ r) × IsKept r.instance r.log LabelsAreRight
IsIndexing r (WrongAt place) = IsFirstPlace r.instance r.log LabelsAreRight place

-- the verdict is true of the log: it is a proof, or this is its first fault
abbrev pub IsVerdict : Orbit → Log → Verdict → Type 0
IsVerdict I log Accepted = IsProof I log
IsVerdict I log (Rejected rule at) = (r : Rule) × (rule ≡ number_of r) × IsFirstFault I log r at
