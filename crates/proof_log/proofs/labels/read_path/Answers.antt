use Rattle.std.proofs.Common.{◌≡◌, ℕ, suc, ◌-◌, ◌⊎◌, inl, inr, List, [], ◌∷◌, ◌++◌, length, length-append, map, decimal, sym, ◌∙◌, ap, subst, arith}
use Rattle.proof_log.proofs.Parts.{failed_by}
use Rattle.proof_log.proofs.PathLines.{numbers_fields, number_passes, number_stops, numbers_over, first_passes, tokens_read, tokens_more, one_in_range, more_in_range}
use Rattle.proof_log.specs.AnswerReading.{IsUnreadLine}
use Rattle.proof_log.specs.AnswerRefusal.{path_fields}
use Rattle.proof_log.specs.AnswerText.{IsPathInText}
use Rattle.proof_log.specs.declared.unread.Unread.TheVariants.{Fault}
use Rattle.seq_io.specs.StrictText.{Rest, line_fault}
use Rattle.strip_model.specs.declared.limits.TheConstants.{MAX_STRIPS}
use Rattle.proof_log.proofs.labels.read_path.Goals.{then-loop-path-test+else-len-lt-MAX_STRIPS, else-loop-path-test}
use Rattle.proof_log.proofs.labels.read_path.Goals as goal

pub loop-path-init : goal.loop-path-init
loop-path-init c =
    let x = c.in_ok-read_directed.field-0 in
    let old = c.args.reader.now in
    let new = c.read_directed.new.reader in
    let read = c.in_ok-read_directed.ensures.read in
    let pushed : c.push.new.self.items ≡ x ∷ [] = c.in_ok-push.ensures.items ∙ ap (λ (xs : List ℕ). xs ++ x ∷ []) c.new-path.ensures.items in
    let R : List ℕ → Type 0 = λ path. IsPathInText path in
    let N : List ℕ → Type 0 = λ path. line_fault (path_fields old.tokens) old ≡ line_fault (numbers_fields (MAX_STRIPS - length path) new.tokens) new in
    let T : List ℕ → Type 0 = λ path. old.tokens ≡ map decimal path ++ new.tokens in
    record {
      in_range = subst R (sym pushed) (one_in_range x c.in_ok-read_directed.ensures.limit);
      tokens = subst T (sym pushed) (ap (λ (rest : Rest). rest.tokens) read);
      after = ap (λ (rest : Rest). rest.after) read;
      line = ap (λ (rest : Rest). rest.line) read;
      fault = subst N (sym pushed) (first_passes (decimal x) old new c.in_ok-read_directed.ensures.fault read);
    }

pub returns-in_err-read_directed-2-clause-unread : goal.returns-in_err-read_directed-2-clause-unread
returns-in_err-read_directed-2-clause-unread c =
    let i = c.loop-path.invariant in
    let old = c.args.reader.now in
    let middle = c.loop-path.reader in
    let new = c.read_directed-in-loop-path.new.reader in
    let fault = c.in_err-read_directed-2.field-0.0 in
    let most = MAX_STRIPS - length c.loop-path.path.items in
    let one : most ≡ suc (most - 1) = omega (arith, c.len.ensures, c.if-len-lt-MAX_STRIPS.true) in
    failed_by (λ unread. IsUnreadLine (path_fields old.tokens) old new unread) (Fault fault) c.from_residual-in_err-read_directed-2.result
    c.from_residual-in_err-read_directed-2.ensures.1 (
      number_stops most (most - 1) middle fault one c.loop-path-test.ensures.some c.in_err-read_directed-2.ensures.fault ∙ sym i.fault,
      ap (λ (rest : Rest). rest.line) c.in_err-read_directed-2.ensures.unchanged ∙ sym i.line,
    )

pub loop-path-preserved : goal.loop-path-preserved
loop-path-preserved c =
    let i = c.loop-path.invariant in
    let x = c.in_ok-read_directed-2.field-0 in
    let old = c.args.reader.now in
    let path = c.loop-path.path.items in
    let middle = c.loop-path.reader in
    let new = c.read_directed-in-loop-path.new.reader in
    let read = c.in_ok-read_directed-2.ensures.read in
    let pushed = c.in_ok-push-2.ensures.items in
    let most = MAX_STRIPS - length path in
    let left = MAX_STRIPS - length (path ++ x ∷ []) in
    let one : most ≡ suc left = omega (arith, c.len.ensures, c.if-len-lt-MAX_STRIPS.true, length-append path (x ∷ [])) in
    let R : List ℕ → Type 0 = λ path. IsPathInText path in
    let N : List ℕ → Type 0 = λ path. line_fault (path_fields old.tokens) old ≡ line_fault (numbers_fields (MAX_STRIPS - length path) new.tokens) new in
    let T : List ℕ → Type 0 = λ path. old.tokens ≡ map decimal path ++ new.tokens in
    record {
      in_range = subst R (sym pushed) (more_in_range path x i.in_range (omega (arith, c.len.ensures, c.if-len-lt-MAX_STRIPS.true)) c.in_ok-read_directed-2.ensures.limit);
      tokens = subst T (sym pushed) (tokens_more path x old.tokens middle new i.tokens read);
      after = i.after ∙ ap (λ (rest : Rest). rest.after) read;
      line = i.line ∙ ap (λ (rest : Rest). rest.line) read;
      fault = subst N (sym pushed) (i.fault ∙ number_passes most left (decimal x) middle new one c.in_ok-read_directed-2.ensures.fault read);
    }

pub returns-in_err-line_end-clause-unread : goal.returns-in_err-line_end-clause-unread
returns-in_err-line_end-clause-unread c =
    let i = c.loop-path.invariant in
    let old = c.args.reader.now in
    let middle = c.loop-path.reader in
    let new = c.line_end.new.self in
    let fault = c.in_err-line_end.field-0.0 in
    let most = MAX_STRIPS - length c.loop-path.path.items in
    let over : (middle.tokens ≡ []) ⊎ (most ≡ 0) = elim c.loop-path-test.branch [
      | then-loop-path-test+else-len-lt-MAX_STRIPS w ↦ inr (omega (arith, w.len.ensures, w.if-len-lt-MAX_STRIPS.false))
      | else-loop-path-test w ↦ inl w.loop-path-test.ensures.none
    ] in
    failed_by (λ unread. IsUnreadLine (path_fields old.tokens) old new unread) (Fault fault) c.from_residual-in_err-line_end.result
    c.from_residual-in_err-line_end.ensures.1 (
      c.in_err-line_end.ensures.fault ∙ sym (numbers_over most middle over) ∙ sym i.fault,
      ap (λ (rest : Rest). rest.line) c.in_err-line_end.ensures.unchanged ∙ sym i.line,
    )

pub returns-clause-read : goal.returns-clause-read
returns-clause-read c =
    let i = c.loop-path.invariant in
    tokens_read (map decimal c.loop-path.path.items) c.args.reader.now c.loop-path.reader c.line_end.new.self i.tokens i.after i.line c.in_ok-line_end.ensures.read

pub returns-clause-stands : goal.returns-clause-stands
returns-clause-stands c =
    let i = c.loop-path.invariant in
    let middle = c.loop-path.reader in
    let most = MAX_STRIPS - length c.loop-path.path.items in
    let over : (middle.tokens ≡ []) ⊎ (most ≡ 0) = elim c.loop-path-test.branch [
      | then-loop-path-test+else-len-lt-MAX_STRIPS w ↦ inr (omega (arith, w.len.ensures, w.if-len-lt-MAX_STRIPS.false))
      | else-loop-path-test w ↦ inl w.loop-path-test.ensures.none
    ] in
    i.fault ∙ numbers_over most middle over ∙ sym c.in_ok-line_end.ensures.fault
