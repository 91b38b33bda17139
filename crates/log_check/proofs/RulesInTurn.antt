-- The verdict, rule by rule.
use Rattle.std.proofs.Common.{◌≡◌, ◌↔◌, ℕ, suc, ◌<◌, ◌≤◌, refl, sym, ap, ◌∙◌, subst, arith, inl, inr}
use Rattle.std.proofs.lemmas.Bool.{cases_lt}
use Rattle.log_check.proofs.FirstPlaces.{rule_at, rule_at_number, refuted}
use Rattle.log_check.specs.Faults.{Rule, number_of, IsKept}
use Rattle.log_check.specs.Faults.Rule.{PlanIsFeasible, GainIsWritten, LabelsAreRight, MarksNameLabels, RetiredAreDominated, CutAreBounded, AllAreExtended, NoneJoinForMore}
use Rattle.log_check.specs.Verdicts.{AreKeptBefore, IsVerdict}
use Rattle.log_check.specs.declared.verdict.Verdict.TheVariants.{Accepted, Rejected}
use Rattle.log_check.specs.declared.verdict.Verdict.{Verdict}
use Rattle.proof_log.specs.Rules.{IsProof}
use Rattle.proof_log.specs.declared.log.Log.{Log}
use Rattle.strip_model.specs.Orbit.{Orbit}

number_within : (r : Rule) → (0 < number_of r) × (number_of r ≤ 8)
number_within PlanIsFeasible = (omega arith, omega arith)
number_within GainIsWritten = (omega arith, omega arith)
number_within LabelsAreRight = (omega arith, omega arith)
number_within MarksNameLabels = (omega arith, omega arith)
number_within RetiredAreDominated = (omega arith, omega arith)
number_within CutAreBounded = (omega arith, omega arith)
number_within AllAreExtended = (omega arith, omega arith)
number_within NoneJoinForMore = (omega arith, omega arith)

-- no rule comes before the first
pub none_before : (I : Orbit) (log : Log) → AreKeptBefore I log 1
none_before I log r l = absurd (omega (arith, l, (number_within r).0))

-- where the rules before one are kept and it is, those before the next are
pub one_more_kept : (I : Orbit) (log : Log) (r : Rule) (n : ℕ) → n ≡ suc (number_of r) → AreKeptBefore I log (number_of r) → IsKept I log r → AreKeptBefore I log n
one_more_kept I log r n is before kept s l =
    elim (cases_lt (number_of s) (number_of r)) [
      | inl lt ↦ before s lt
      | inr le ↦
          let same : number_of r ≡ number_of s = omega arith in
          let rules : r ≡ s = sym (rule_at_number r) ∙ ap rule_at same ∙ rule_at_number s in
          subst (λ (r : Rule). IsKept I log r) rules kept
    ]

-- where all eight are kept, each is
pub all_rules_kept : (I : Orbit) (log : Log) → AreKeptBefore I log 9 → (r : Rule) → IsKept I log r
all_rules_kept I log before r = before r (omega (arith, (number_within r).1))

-- a verdict accepts just the logs that are proofs
pub accepts_proofs : (I : Orbit) (log : Log) (verdict : Verdict) → IsVerdict I log verdict → (verdict ≡ Accepted) ↔ IsProof I log
accepts_proofs I log Accepted is = (λ _. is, λ _. refl)
accepts_proofs I log (Rejected rule at) is = (λ e. absurd (cc), λ proof. absurd (refuted I log is.0 at is.2 proof))
