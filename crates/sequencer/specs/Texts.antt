-- The texts that the program writes, but for those that the crates below define.
use Rattle.std.specs.Prelude.{ℕ, List, [], ◌∷◌, ◌++◌, codes, decimal}
use Rattle.std.specs.List.{flat_map}
use Rattle.instance_text.specs.declared.refusal.Cause.{Cause}
use Rattle.instance_text.specs.declared.refusal.Cause.TheVariants as cause
use Rattle.instance_text.specs.declared.refusal.Refusal.{Refusal}
use Rattle.plan_check.specs.Fault.{place_of_fault}
use Rattle.plan_check.specs.declared.fault.PlanFault.{PlanFault}
use Rattle.plan_check.specs.declared.fault.PlanFault.TheVariants as fault
use Rattle.proof_log.specs.AnswerText.{gain_line}
use Rattle.seq_io.specs.Line.{spelled_line}

-- what `score` answers to a feasible plan
abbrev pub gain_text : ℕ → List ℕ
gain_text gain = spelled_line (gain_line gain)

-- what `check` answers to an answer with a proof: `accepted`, and the gain
abbrev pub accepted_text : ℕ → List ℕ
accepted_text gain = flat_map spelled_line ((codes "accepted" ∷ []) ∷ gain_line gain ∷ [])

-- `trial SEED SIZE`
abbrev pub trial_line : ℕ → ℕ → List (List ℕ)
trial_line seed size = codes "trial" ∷ decimal seed ∷ decimal size ∷ []

-- what `trial` answers where the search is still open
abbrev pub open_text : ℕ → ℕ → ℕ → List ℕ
open_text seed size gain = flat_map spelled_line (trial_line seed size ∷ (codes "Best" ∷ []) ∷ gain_line gain ∷ [])

-- what `trial` answers where the plan is optimal: `accepted` is the verdict of the checker
abbrev pub proved_text : ℕ → ℕ → ℕ → List ℕ
proved_text seed size gain =
    flat_map spelled_line (trial_line seed size ∷ (codes "Optimal" ∷ []) ∷ gain_line gain ∷ (codes "accepted" ∷ []) ∷ [])

-- what `check` answers to another, `rejected rule R at P`: the first rule that is broken, and its first place
abbrev pub rule_text : ℕ → ℕ → List ℕ
rule_text rule place =
    spelled_line (codes "rejected" ∷ codes "rule" ∷ decimal rule ∷ codes "at" ∷ decimal place ∷ [])

-- the number of a cause
abbrev pub number_of_cause : Cause → ℕ
number_of_cause cause.Ended = 1
number_of_cause cause.Word = 2
number_of_cause cause.Number = 3
number_of_cause cause.Range = 4
number_of_cause cause.TooMany = 5
number_of_cause cause.Extra = 6
number_of_cause (cause.TwinNotMutual i) = 7
number_of_cause (cause.TwinSelf i) = 8
number_of_cause (cause.TwinOtherRequest i) = 9
number_of_cause (cause.SameStrip x y value) = 10
number_of_cause (cause.Shortcut x y z) = 11
number_of_cause cause.Version = 12

-- the place in the table, for a cause that has one
abbrev pub place_in_table : Cause → List (List ℕ)
place_in_table (cause.SameStrip x y value) = codes "entry" ∷ decimal x ∷ decimal y ∷ decimal value ∷ []
place_in_table (cause.Shortcut x y z) = codes "triple" ∷ decimal x ∷ decimal y ∷ decimal z ∷ []
place_in_table _ = []

-- `refused C line L`
abbrev pub refusal_line : ℕ → ℕ → List (List ℕ)
refusal_line number line = codes "refused" ∷ decimal number ∷ codes "line" ∷ decimal line ∷ []

-- why an instance text is refused
abbrev pub refusal_text : Refusal → List ℕ
refusal_text r = spelled_line (refusal_line (number_of_cause r.cause) r.line ++ place_in_table r.cause)

-- the input has more bytes than its limit
abbrev pub too_long_text : List ℕ
too_long_text = spelled_line (refusal_line 13 0)

-- the word for a fault of a plan
abbrev pub word_of_fault : PlanFault → List ℕ
word_of_fault (fault.NoSuchStrip k) = codes "strip"
word_of_fault (fault.Twice k) = codes "twice"
word_of_fault (fault.Early k) = codes "early"
word_of_fault (fault.Late k) = codes "late"
word_of_fault (fault.Manoeuvre k) = codes "manoeuvre"
word_of_fault (fault.Twin k) = codes "twin"

-- `rejected W at k`
abbrev pub rejection_text : List ℕ → ℕ → List ℕ
rejection_text word place = spelled_line (codes "rejected" ∷ word ∷ codes "at" ∷ decimal place ∷ [])

-- why a plan is rejected
abbrev pub fault_text : PlanFault → List ℕ
fault_text fault = rejection_text (word_of_fault fault) (place_of_fault fault)
