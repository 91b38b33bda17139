-- Stages of a text and its bytes: what a line that can stand, or can't, says of the first line that can't.
use Rattle.std.proofs.Common.{◌≡◌, ℕ, ◌+◌, ◌==◌, Bool, true, false, List, [], ◌∷◌, take, drop, refl, sym, ◌∙◌, ap, None, Some}
use Rattle.std.specs.List.{onto_first, slice_split}
use Rattle.std.specs.Option.{option_or}
use Rattle.std.proofs.lemmas.List.Splits.{slice_split-cons_no}
use Rattle.proof_log.specs.AnswerRefusal.{Stage, AtStatus, AtGain, AtStrips, AtPlan, AtLabels, AtLog, AtCut, AtPaths, AtMarks, AtNothing, fields_at, stage_after, stage_fault, cause_of, line_of, lines_fault, bytes_fault}
use Rattle.seq_io.proofs.FrontTokens.{position-no}
use Rattle.seq_io.specs.Line.{LF}
use Rattle.seq_io.specs.StrictText.{Field, at_line, line_tokens, first_line, behind_line, token_fault, tokens_fault}
use Rattle.seq_io.specs.declared.line_fault.LineFault.{LineFault}

-- which bytes follow the end of a line doesn't matter to it
same_after : (fields : List Field) (tokens : List (List ℕ)) (b c : ℕ) (xs ys : List ℕ)
    → tokens_fault fields tokens (b ∷ xs) ≡ tokens_fault fields tokens (c ∷ ys)
same_after [] [] b c xs ys = refl
same_after [] ([] ∷ tokens) b c xs ys = refl
same_after [] ((x ∷ bytes) ∷ tokens) b c xs ys = refl
same_after (field ∷ fields) [] b c xs ys = refl
same_after (field ∷ fields) (token ∷ tokens) b c xs ys =
    ap (λ rest. option_or (token_fault field token) rest) (same_after fields tokens b c xs ys)

same_stage_fault : (stage : Stage) (n : ℕ) (tokens : List (List ℕ)) (b c : ℕ) (xs ys : List ℕ)
    → stage_fault stage (record { line = n; tokens = tokens; after = b ∷ xs }) ≡ stage_fault stage (record { line = n; tokens = tokens; after = c ∷ ys })
same_stage_fault AtStatus n tokens b c xs ys = same_after (fields_at AtStatus tokens) tokens b c xs ys
same_stage_fault AtGain n tokens b c xs ys = same_after (fields_at AtGain tokens) tokens b c xs ys
same_stage_fault AtStrips n tokens b c xs ys = same_after (fields_at AtStrips tokens) tokens b c xs ys
same_stage_fault (AtPlan more) n tokens b c xs ys = same_after (fields_at (AtPlan more) tokens) tokens b c xs ys
same_stage_fault AtLabels n tokens b c xs ys = same_after (fields_at AtLabels tokens) tokens b c xs ys
same_stage_fault (AtLog labels) n tokens b c xs ys = same_after (fields_at (AtLog labels) tokens) tokens b c xs ys
same_stage_fault (AtCut labels) n tokens b c xs ys = same_after (fields_at (AtCut labels) tokens) tokens b c xs ys
same_stage_fault (AtPaths side more) n tokens b c xs ys = same_after (fields_at (AtPaths side more) tokens) tokens b c xs ys
same_stage_fault AtMarks n tokens b c xs ys = same_after (fields_at AtMarks tokens) tokens b c xs ys
same_stage_fault AtNothing n [] b c xs ys = refl
same_stage_fault AtNothing n (token ∷ tokens) b c xs ys = refl

-- the lines behind the first
abbrev pub more_lines : List ℕ → List (List ℕ)
more_lines [] = []
more_lines (b ∷ bytes) = slice_split (λ c. c == LF) bytes

-- the lines of some bytes are the first of them and those behind it
pub first_and_more : (bytes : List ℕ) → slice_split (λ c. c == LF) bytes ≡ first_line bytes ∷ more_lines (behind_line bytes)
first_and_more [] = refl
first_and_more (b ∷ bytes) = by_first (b == LF) refl (first_and_more bytes) where
  by_first : (ends : Bool) → (b == LF) ≡ ends → slice_split (λ c. c == LF) bytes ≡ first_line bytes ∷ more_lines (behind_line bytes)
      → slice_split (λ c. c == LF) (b ∷ bytes) ≡ first_line (b ∷ bytes) ∷ more_lines (behind_line (b ∷ bytes))
  by_first true h more = rw h refl
  by_first false h more =
      slice_split-cons_no (λ c. c == LF) b bytes h
      ∙ ap (λ lines. onto_first b lines) more
      ∙ ap (λ (n : ℕ). take n (b ∷ bytes) ∷ more_lines (drop n (b ∷ bytes))) (sym (position-no (λ c. c == LF) b bytes h))

-- a line that can't stand is the first
fault_of_first : (stage : Stage) (n : ℕ) (line behind : List ℕ) (fault : LineFault)
    → stage_fault stage (line_of n line behind) ≡ Some fault → lines_fault stage n (line ∷ more_lines behind) ≡ Some (n, cause_of fault)
fault_of_first stage n line [] fault e = rw e refl
fault_of_first stage n line (b ∷ bytes) fault e =
    let lines : slice_split (λ c. c == LF) bytes ≡ first_line bytes ∷ more_lines (behind_line bytes) = first_and_more bytes in
    let here : stage_fault stage (line_of n line (LF ∷ [])) ≡ Some fault = same_stage_fault stage n (line_tokens line) LF b [] bytes ∙ e in
    rw (lines, here) refl

-- behind one that can stand it is looked for
fault_of_more : (stage : Stage) (n : ℕ) (line bytes : List ℕ)
    → stage_fault stage (line_of n line (LF ∷ bytes)) ≡ None
    → lines_fault stage n (line ∷ more_lines (LF ∷ bytes)) ≡ bytes_fault (stage_after stage (line_tokens line)) (n + 1) bytes
fault_of_more stage n line bytes e =
    let lines : slice_split (λ c. c == LF) bytes ≡ first_line bytes ∷ more_lines (behind_line bytes) = first_and_more bytes in
    let here : stage_fault stage (line_of n line (LF ∷ [])) ≡ None = same_stage_fault stage n (line_tokens line) LF LF [] bytes ∙ e in
    rw (lines, here) refl

-- the same of the bytes of a text, from the beginning of a line on
pub fault_here : (stage : Stage) (n : ℕ) (bytes : List ℕ) (fault : LineFault)
    → stage_fault stage (at_line n bytes) ≡ Some fault → bytes_fault stage n bytes ≡ Some (n, cause_of fault)
unfolding at_line
fault_here stage n bytes fault e =
    ap (λ lines. lines_fault stage n lines) (first_and_more bytes) ∙ fault_of_first stage n (first_line bytes) (behind_line bytes) fault e

pub fault_behind : (stage : Stage) (n : ℕ) (bytes rest : List ℕ) (tokens : List (List ℕ))
    → (at_line n bytes).tokens ≡ tokens → (at_line n bytes).after ≡ LF ∷ rest → stage_fault stage (at_line n bytes) ≡ None
    → bytes_fault stage n bytes ≡ bytes_fault (stage_after stage tokens) (n + 1) rest
unfolding at_line
fault_behind stage n bytes rest tokens is ends e =
    let here : stage_fault stage (line_of n (first_line bytes) (LF ∷ rest)) ≡ None =
    ap (λ (behind : List ℕ). stage_fault stage (line_of n (first_line bytes) behind)) (sym ends) ∙ e in
    ap (λ lines. lines_fault stage n lines) (first_and_more bytes)
    ∙ ap (λ (behind : List ℕ). lines_fault stage n (first_line bytes ∷ more_lines behind)) ends
    ∙ fault_of_more stage n (first_line bytes) rest here
    ∙ ap (λ (tokens : List (List ℕ)). bytes_fault (stage_after stage tokens) (n + 1) rest) is
