-- Parts of a text that were read one after the other.
use Rattle.std.proofs.Common.{◌≡◌, ℕ, ◌+◌, ◌<◌, ◌≤◌, ◌^◌, codes, List, [], ◌∷◌, ◌++◌, length, length-append, refl, sym, ◌∙◌, ap, subst, arith, None, Some, Result, Ok, Err}
use Rattle.std.specs.Result.{IfErr, IsErrAnd}
use Rattle.std.specs.List.{flat_map, join_with_byte}
use Rattle.std.proofs.lemmas.List.{append_assoc, append-nil}
use Rattle.std.proofs.lemmas.List.Concat.{flat_map-append}
use Rattle.plan_check.proofs.ReadLines.{after_line}
use Rattle.plan_check.specs.PlanText.{count_line}
use Rattle.plan_check.specs.Reading.{count_fields, IsLineBegun}
use Rattle.proof_log.proofs.Stages.{fault_here, fault_behind}
use Rattle.proof_log.specs.AnswerReading.{rest_fault, Passes, IsUnread}
use Rattle.proof_log.specs.AnswerRefusal.{Stage, AtStatus, AtStrips, AtLabels, AtLog, plan_stage, number_of_line, stage_after, stage_fault, bytes_fault, cause_of}
use Rattle.proof_log.specs.AnswerText.{number_line}
use Rattle.proof_log.specs.declared.limits.TheConstants.{MAX_LABELS}
use Rattle.proof_log.specs.declared.unread.Unread.{Unread}
use Rattle.proof_log.specs.declared.unread.Unread.TheVariants.{Fault, Memory}
use Rattle.seq_io.proofs.Decimal.{number_value-decimal}
use Rattle.seq_io.proofs.Spelled.{unread-at_line}
use Rattle.seq_io.specs.Line.{LF, BLANK, spelled_line}
use Rattle.seq_io.specs.StrictText.{Rest, TheWord, ANumber, IsLine, at_line, line_fault, unread}
use Rattle.seq_io.specs.declared.line_fault.LineFault.{LineFault}
use Rattle.strip_model.specs.declared.limits.TheConstants.{MAX_STRIPS}

-- a call failed by this error
pub failed_by : {T E : Type 0} (P : E → Type 0) (e : E) (result : Result T E) → IsErrAnd result (λ x. x ≡ e) → P e → IfErr result P
failed_by P e (Ok value) same p = tt
failed_by P e (Err x) same p = subst P (sym same) p

-- what is left, from the beginning of a line on
pub rest_fault-at_line : (stage : Stage) (n : ℕ) (bytes : List ℕ) → rest_fault stage (at_line n bytes) ≡ bytes_fault stage n bytes
unfolding rest_fault at_line
rest_fault-at_line stage n bytes = ap (λ (left : List ℕ). bytes_fault stage n left) (unread-at_line n bytes)

-- a line can't stand
pub refused_line : (stage : Stage) (old new : Rest) (fault : LineFault) → IsLineBegun old → Some fault ≡ stage_fault stage old → new.line ≡ old.line
    → rest_fault stage old ≡ Some (new.line, cause_of fault)
unfolding rest_fault
refused_line stage old new fault begun faulty same =
    fault_here stage old.line (unread old) fault (ap (λ (rest : Rest). stage_fault stage rest) (sym begun) ∙ sym faulty)
    ∙ ap (λ (n : ℕ). Some (n, cause_of fault)) (sym same)

-- a line was read that can stand
pub passed_line : (stage : Stage) (tokens : List (List ℕ)) (old new : Rest) → IsLineBegun old → IsLine tokens old new → stage_fault stage old ≡ None
    → Passes stage (stage_after stage tokens) (tokens ∷ []) old new
unfolding rest_fault
passed_line stage tokens old new begun line stands =
    let after = after_line tokens old new begun line in
    let bytes = unread old in
    let T : Rest → Type 0 = λ rest. rest.tokens ≡ tokens in
    let A : Rest → Type 0 = λ rest. rest.after ≡ LF ∷ line.bytes in
    let F : Rest → Type 0 = λ rest. stage_fault stage rest ≡ None in
    let next : Stage = stage_after stage tokens in
    record {
      begun = after.begun;
      same_fault = fault_behind stage old.line bytes line.bytes tokens (subst T begun line.tokens_are) (subst A begun line.ends) (subst F begun stands)
          ∙ sym (rest_fault-at_line next (old.line + 1) line.bytes)
          ∙ ap (λ (rest : Rest). rest_fault next rest) (sym line.next);
      spelling = after.spelling ∙ ap (λ (front : List ℕ). front ++ unread new) (sym (append-nil (spelled_line tokens)));
    }

-- nothing was read yet
pub nothing_passed : (stage : Stage) (rest : Rest) → IsLineBegun rest → Passes stage stage [] rest rest
nothing_passed stage rest begun = record { begun = begun; same_fault = refl; spelling = refl }

-- two parts, one after the other
pub both_passed : (from between to : Stage) (lines more : List (List (List ℕ))) (old middle new : Rest)
    → Passes from between lines old middle → Passes between to more middle new → Passes from to (lines ++ more) old new
both_passed from between to lines more old middle new first second = record {
  begun = second.begun;
  same_fault = first.same_fault ∙ second.same_fault;
  spelling = first.spelling
      ∙ ap (λ (left : List ℕ). flat_map spelled_line lines ++ left) second.spelling
      ∙ sym (append_assoc (flat_map spelled_line lines) (flat_map spelled_line more) (unread new))
      ∙ ap (λ (front : List ℕ). front ++ unread new) (sym (flat_map-append spelled_line lines more));
}

-- a line that can't stand after some that can is the first
pub refused_behind : (from between : Stage) (lines : List (List (List ℕ))) (old middle new : Rest) (unread : Unread)
    → Passes from between lines old middle → IsUnread between middle new unread → IsUnread from old new unread
refused_behind from between lines old middle new (Fault fault) first refused = first.same_fault ∙ refused
refused_behind from between lines old middle new Memory first refused = tt

-- a line can't stand that follows some that can
pub line_refused : {T : Type 0} (from stage : Stage) (lines : List (List (List ℕ))) (old middle new : Rest) (fault : LineFault) (result : Result T Unread)
    → Passes from stage lines old middle → Some fault ≡ stage_fault stage middle → new.line ≡ middle.line → IsErrAnd result (λ unread. unread ≡ Fault fault)
    → IfErr result (IsUnread from old new)
line_refused from stage lines old middle new fault result first faulty same failed =
    failed_by (λ unread. IsUnread from old new unread) (Fault fault) result failed (first.same_fault ∙ refused_line stage middle new fault first.begun faulty same)

-- a line was read that follows some
pub line_passed : (from stage : Stage) (lines : List (List (List ℕ))) (tokens : List (List ℕ)) (old middle new : Rest)
    → Passes from stage lines old middle → IsLine tokens middle new → stage_fault stage middle ≡ None
    → Passes from (stage_after stage tokens) (lines ++ tokens ∷ []) old new
line_passed from stage lines tokens old middle new first line stands =
    both_passed from stage (stage_after stage tokens) lines (tokens ∷ []) old middle new first (passed_line stage tokens middle new first.begun line stands)

-- a line that was read leaves fewer bytes
pub fewer_left : (tokens : List (List ℕ)) (old new : Rest) → IsLineBegun old → IsLine tokens old new → length (unread new) < length (unread old)
fewer_left tokens old new begun line =
    let spelling = (after_line tokens old new begun line).spelling in
    omega (
      arith,
      ap (λ (bytes : List ℕ). length bytes) spelling,
      length-append (spelled_line tokens) (unread new),
      length-append (join_with_byte BLANK tokens) (LF ∷ []),
    )

-- the number of a line is the one that is spelled there
number_of : (word : List ℕ) (n : ℕ) → n < 2 ^ 64 → number_of_line (number_line word n) ≡ n
number_of word n small = number_value-decimal n small

-- how many acquisitions come was read
pub strips_passed : (lines : List (List (List ℕ))) (n : ℕ) (old middle new : Rest) → Passes AtStatus AtStrips lines old middle → n ≤ MAX_STRIPS
    → IsLine (count_line n) middle new → line_fault count_fields middle ≡ None → Passes AtStatus (plan_stage n) (lines ++ count_line n ∷ []) old new
strips_passed lines n old middle new first few line stands =
    let S : ℕ → Type 0 = λ m. Passes AtStatus (plan_stage m) (lines ++ count_line n ∷ []) old new in
    subst S (number_of (codes "strips") n (omega (arith, few))) (line_passed AtStatus AtStrips lines (count_line n) old middle new first line stands)

-- how many labels come was read
pub labels_passed : (lines : List (List (List ℕ))) (n : ℕ) (old middle new : Rest) → Passes AtStatus AtLabels lines old middle → n ≤ MAX_LABELS
    → IsLine (number_line (codes "labels") n) middle new → line_fault (TheWord (codes "labels") ∷ ANumber MAX_LABELS ∷ []) middle ≡ None
    → Passes AtStatus (AtLog n) (lines ++ number_line (codes "labels") n ∷ []) old new
labels_passed lines n old middle new first few line stands =
    let S : ℕ → Type 0 = λ m. Passes AtStatus (AtLog m) (lines ++ number_line (codes "labels") n ∷ []) old new in
    subst S (number_of (codes "labels") n (omega (arith, few))) (line_passed AtStatus AtLabels lines (number_line (codes "labels") n) old middle new first line stands)
