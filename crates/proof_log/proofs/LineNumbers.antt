-- The line that can't stand is one of the text, or the one behind its last.
use Rattle.std.proofs.Common.{◌≡◌, ℕ, ◌+◌, ◌<◌, ◌≤◌, ◌==◌, List, [], ◌∷◌, length, ap, arith, Option, None, Some}
use Rattle.std.specs.List.{slice_split}
use Rattle.std.specs.Option.{option_or, unwrap_or}
use Rattle.std.proofs.lemmas.List.Splits.{length-slice_split}
use Rattle.std.proofs.lemmas.List.Sums.{count_by-le-length}
use Rattle.proof_log.specs.AnswerRefusal.{Stage, stage_after, stage_fault, cause_of, named, line_of, lines_fault, bytes_fault}
use Rattle.proof_log.specs.declared.refusal.LogCause.{LogCause}
use Rattle.seq_io.specs.Line.{LF}
use Rattle.seq_io.specs.StrictText.{line_tokens}
use Rattle.seq_io.specs.declared.line_fault.LineFault.{LineFault}

-- a fault that was found, and its line
abbrev Found : Type 0
Found = Option (ℕ × LogCause)

same_line : (m n : ℕ) (c d : LogCause) → ◌≡◌ {A = Found} (Some (m, c)) (Some (n, d)) → m ≡ n
same_line m n c d e = ap (λ (found : Found). (unwrap_or found (m, c)).0) e

none_found : (m : ℕ) (c : LogCause) → ◌≡◌ {A = Found} None (Some (m, c)) → ⊥
none_found m c e = cc

fault_in_lines : (stage : Stage) (n : ℕ) (lines : List (List ℕ)) (m : ℕ) (c : LogCause) → lines_fault stage n lines ≡ Some (m, c) → m < n + length lines
fault_in_lines stage n [] m c e = absurd (none_found m c e)
fault_in_lines stage n (line ∷ []) m c e = by_fault (stage_fault stage (line_of n line [])) e where
  by_fault : (found : Option LineFault) → named n found ≡ Some (m, c) → m < n + length (line ∷ [])
  by_fault None e = absurd (none_found m c e)
  by_fault (Some fault) e = omega (arith, same_line n m (cause_of fault) c e)
fault_in_lines stage n (line ∷ next ∷ lines) m c e =
    by_fault (stage_fault stage (line_of n line (LF ∷ []))) e (fault_in_lines (stage_after stage (line_tokens line)) (n + 1) (next ∷ lines) m c)
  where
    by_fault : (found : Option LineFault) → option_or (named n found) (lines_fault (stage_after stage (line_tokens line)) (n + 1) (next ∷ lines)) ≡ Some (m, c)
        → (lines_fault (stage_after stage (line_tokens line)) (n + 1) (next ∷ lines) ≡ Some (m, c) → m < n + 1 + length (next ∷ lines)) → m < n + length (line ∷ next ∷ lines)
    by_fault None e more = omega (arith, more e)
    by_fault (Some fault) e more = omega (arith, same_line n m (cause_of fault) c e)

pub fault_in_text : (stage : Stage) (n : ℕ) (bytes : List ℕ) (m : ℕ) (c : LogCause) → bytes_fault stage n bytes ≡ Some (m, c) → m ≤ n + length bytes
fault_in_text stage n bytes m c e =
    omega (
      arith,
      fault_in_lines stage n (slice_split (λ b. b == LF) bytes) m c e,
      length-slice_split (λ b. b == LF) bytes,
      count_by-le-length (λ b. b == LF) bytes,
    )
