-- A log has at most one first fault, and then it is no proof.
use Rattle.std.proofs.Common.{◌≡◌, ℕ, ◌<◌, refl, sym, arith, ◌==◌, if◌then◌else◌, inl, inr, ap, ◌∙◌}
use Rattle.std.proofs.lemmas.Bool.{cases_lt}
use Rattle.log_check.specs.Faults.{Rule, IsFirstFault, IsFirstPlace, IsKept, number_of}
use Rattle.log_check.specs.Faults.Rule.{PlanIsFeasible, GainIsWritten, LabelsAreRight, MarksNameLabels, RetiredAreDominated, CutAreBounded, AllAreExtended, NoneJoinForMore}
use Rattle.log_check.proofs.Keeping.{keeps_from_proof}
use Rattle.plan_check.proofs.Faults.{Feasible-faultless}
use Rattle.plan_check.specs.Fault.{place_of_fault}
use Rattle.proof_log.specs.Rules.{IsProof}
use Rattle.proof_log.specs.declared.log.Log.{Log}
use Rattle.strip_model.specs.Orbit.{Orbit}
use Rattle.strip_model.specs.Plan.{Feasible}

-- a log with a first fault is no proof
pub refuted : (I : Orbit) (log : Log) (rule : Rule) (place : ℕ) → IsFirstFault I log rule place → IsProof I log → ⊥
refuted I log rule place fault proof = fault.at.broken (keeps_from_proof I log proof rule place)

-- the rule of a number
abbrev pub rule_at : ℕ → Rule
rule_at n =
    if n == 1 then PlanIsFeasible else if n == 2 then GainIsWritten else if n == 3 then LabelsAreRight
    else if n == 4 then MarksNameLabels else if n == 5 then RetiredAreDominated else if n == 6 then CutAreBounded
    else if n == 7 then AllAreExtended else NoneJoinForMore

pub rule_at_number : (r : Rule) → rule_at (number_of r) ≡ r
rule_at_number PlanIsFeasible = refl
rule_at_number GainIsWritten = refl
rule_at_number LabelsAreRight = refl
rule_at_number MarksNameLabels = refl
rule_at_number RetiredAreDominated = refl
rule_at_number CutAreBounded = refl
rule_at_number AllAreExtended = refl
rule_at_number NoneJoinForMore = refl

-- no rule of a first fault comes before that of another
not_earlier : (I : Orbit) (log : Log) (r : Rule) (n : ℕ) (s : Rule) (m : ℕ) → IsFirstFault I log r n → IsFirstFault I log s m → number_of r < number_of s → ⊥
not_earlier I log r n s m first other less = first.at.broken (other.earlier r less n)

-- and no place, where the rule is the same
not_before : (I : Orbit) (log : Log) (r s : Rule) (n m : ℕ) → r ≡ s → IsFirstPlace I log r n → IsFirstPlace I log s m → n < m → ⊥
not_before I log r s n m same first other less = first.broken (rw same (other.before n less))

one_number : (I : Orbit) (log : Log) (r : Rule) (n : ℕ) (s : Rule) (m : ℕ) → IsFirstFault I log r n → IsFirstFault I log s m → number_of r ≡ number_of s
one_number I log r n s m first other =
    elim (cases_lt (number_of r) (number_of s)) [
      | inl lt ↦ absurd (not_earlier I log r n s m first other lt)
      | inr le ↦ elim (cases_lt (number_of s) (number_of r)) [
        | inl lt ↦ absurd (not_earlier I log s m r n other first lt)
        | inr ge ↦ omega arith
      ]
    ]

-- a log has at most one first fault
pub one : (I : Orbit) (log : Log) (r : Rule) (n : ℕ) (s : Rule) (m : ℕ) → IsFirstFault I log r n → IsFirstFault I log s m → (r ≡ s) × (n ≡ m)
one I log r n s m first other =
    let same : r ≡ s = sym (rule_at_number r) ∙ ap rule_at (one_number I log r n s m first other) ∙ rule_at_number s in (
      same,
      elim (cases_lt n m) [
        | inl lt ↦ absurd (not_before I log r s n m same first.at other.at lt)
        | inr le ↦ elim (cases_lt m n) [
          | inl lt ↦ absurd (not_before I log s r m n (sym same) other.at first.at lt)
          | inr ge ↦ omega arith
        ]
      ],
    )

-- a log that keeps the first rule has a feasible plan
pub feasible_kept : (I : Orbit) (log : Log) → IsKept I log PlanIsFeasible → Feasible I log.plan.items
feasible_kept I log kept = Feasible-faultless I log.plan.items (λ fault has. kept (place_of_fault fault) fault has refl)
