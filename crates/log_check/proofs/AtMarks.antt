-- The fifth and the sixth rule, mark by mark.
use Rattle.std.proofs.Common.{◌≡◌, ◌↔◌, ℕ, ◌+◌, ◌<◌, ◌≤◌, List, length, subst, Bool, arith, inl, inr}
use Rattle.std.specs.Prelude.{slice_get, Some, IsTrue}
use Rattle.std.proofs.lemmas.Bool.{cases_lt}
use Rattle.std.proofs.lemmas.Option.{slice_get_within}
use Rattle.log_check.specs.Faults.{Keeps}
use Rattle.log_check.specs.Faults.Rule.{RetiredAreDominated, CutAreBounded}
use Rattle.log_check.specs.Times.{AllNamed}
use Rattle.proof_log.specs.Rules.{NamesLabels}
use Rattle.proof_log.specs.declared.log.Log.{Log}
use Rattle.proof_log.specs.declared.mark.Mark.{Mark}
use Rattle.strip_model.specs.Orbit.{Orbit}

-- a test of what a mark says tells it of the mark at a place
pub rule_at_mark : (P : Mark → Type 0) (marks : List Mark) (n : ℕ) (m v : Mark) → slice_get marks n ≡ Some m → m ≡ v → (keeps : Bool)
    → (IsTrue keeps ↔ P v) → (IsTrue keeps ↔ ((q : Mark) → slice_get marks n ≡ Some q → P q))
rule_at_mark P marks n m v at is keeps test = (
  λ t q there. let same : v ≡ q = cc in subst P same (test.0 t),
  λ all. test.1 (subst P is (all m at)),
)

-- what the mark at a place names is there
pub named_at : (log : Log) (n : ℕ) (m v : Mark) → AllNamed log → slice_get log.marks.items n ≡ Some m → m ≡ v → NamesLabels log v
named_at log n m v named at is = subst (λ (m : Mark). NamesLabels log m) is (named n m at)

-- a rule that is kept below a number is kept by one more
pub kept_more : (P : ℕ → Type 0) (i : ℕ) → ((n : ℕ) → n < i → P n) → P i → (n : ℕ) → n < i + 1 → P n
kept_more P i below here n l = elim (cases_lt n i) [
  | inl lt ↦ below n lt
  | inr le ↦ let same : i ≡ n = omega arith in subst P same here
]

-- past the last mark nothing is asked
pub retired_to_end : (I : Orbit) (log : Log) (i : ℕ) → length log.marks.items ≤ i → ((n : ℕ) → n < i → Keeps I log RetiredAreDominated n)
    → (n : ℕ) → Keeps I log RetiredAreDominated n
retired_to_end I log i end below n m at = below n (omega (arith, slice_get_within log.marks.items n m at)) m at

pub cut_to_end : (I : Orbit) (log : Log) (i : ℕ) → length log.marks.items ≤ i → ((n : ℕ) → n < i → Keeps I log CutAreBounded n)
    → (n : ℕ) → Keeps I log CutAreBounded n
cut_to_end I log i end below n m at = below n (omega (arith, slice_get_within log.marks.items n m at)) m at
