use Rattle.std.proofs.Common.{◌≡◌, ℕ, suc, ◌+◌, ◌-◌, ◌⊎◌, inl, inr, false, List, [], ◌∷◌, codes, length, length-append, map, sym, ◌∙◌, ap, subst, arith, Vec}
use Rattle.std.specs.declared.alloc.Global.{Global}
use Rattle.proof_log.proofs.LabelLines.{label_refused, label_passed, one_more_path, forward_side, none_forward}
use Rattle.proof_log.proofs.Parts.{failed_by}
use Rattle.proof_log.specs.AnswerReading.{Passes, IsUnread, ArePathsRead, items_of}
use Rattle.proof_log.specs.AnswerRefusal.{paths_stage}
use Rattle.proof_log.specs.AnswerText.{path_line}
use Rattle.seq_io.specs.StrictText.{is_next}
use Rattle.strip_model.specs.declared.end.End.TheVariants.{Forward}
use Rattle.proof_log.proofs.labels.read_forward.Goals.{then-loop-reader-test+else-is_next, else-loop-reader-test}
use Rattle.proof_log.proofs.labels.read_forward.Goals as goal

pub returns-in_err-read_label-clause-unread : goal.returns-in_err-read_label-clause-unread
returns-in_err-read_label-clause-unread c =
    let i = c.loop-reader.invariant in
    let from = paths_stage Forward c.args.wanted in
    let lines = map (path_line Forward) (items_of c.loop-reader.paths.items) in
    let old = c.args.reader.now in
    let middle = c.loop-reader.reader in
    let new = c.read_label.new.reader in
    let most = c.args.wanted - length c.loop-reader.paths.items in
    let one : most ≡ suc (most - 1) = omega (arith, c.len.ensures, c.loop-reader-test.true) in
    let side = forward_side middle.tokens (sym c.is_next.ensures ∙ c.if-is_next.true) in
    let P : ℕ → Type 0 = λ n. Passes from (paths_stage Forward n) lines old middle in
    failed_by (λ unread. IsUnread from old new unread) c.in_err-read_label.field-0.0 c.from_residual.result c.from_residual.ensures.1
    (label_refused from Forward (most - 1) lines old middle new c.in_err-read_label.field-0.0 (subst P one i.read.passes) side c.in_err-read_label.ensures.unread)

pub loop-reader-preserved : goal.loop-reader-preserved
loop-reader-preserved c =
    let i = c.loop-reader.invariant in
    let from = paths_stage Forward c.args.wanted in
    let paths = c.loop-reader.paths.items in
    let all = c.push.new.self.items in
    let lines = map (path_line Forward) (items_of paths) in
    let old = c.args.reader.now in
    let middle = c.loop-reader.reader in
    let new = c.read_label.new.reader in
    let path = c.in_ok-read_label.field-0 in
    let pushed = c.in_ok-push.ensures.items in
    let most = c.args.wanted - length paths in
    let one : most ≡ suc (most - 1) = omega (arith, c.len.ensures, c.loop-reader-test.true) in
    let long : length all ≡ length paths + 1 = ap (λ (xs : List (Vec ℕ Global)). length xs) pushed ∙ length-append paths (path ∷ []) in
    let left : most - 1 ≡ c.args.wanted - length all = omega (arith, long, c.len.ensures, c.loop-reader-test.true) in
    let side = forward_side middle.tokens (sym c.is_next.ensures ∙ c.if-is_next.true) in
    let P : ℕ → Type 0 = λ n. Passes from (paths_stage Forward n) lines old middle in
    let N : ℕ → Type 0 = λ n. ArePathsRead Forward from (paths_stage Forward n) old new all in
    let passed = label_passed from Forward (most - 1) lines path.items old middle new (subst P one i.read.passes) side
    c.in_ok-read_label.ensures.read c.in_ok-read_label.ensures.stands in
    record {
      few = omega (arith, long, c.len.ensures, c.loop-reader-test.true);
      read = subst N left (one_more_path Forward from (paths_stage Forward (most - 1)) old new paths all path pushed i.read.in_range
          c.in_ok-read_label.ensures.in_range passed);
    }

pub returns-clause-read : goal.returns-clause-read
returns-clause-read c =
    let i = c.loop-reader.invariant in
    let from = paths_stage Forward c.args.wanted in
    let middle = c.loop-reader.reader in
    let left = c.args.wanted - length c.loop-reader.paths.items in
    let over : (left ≡ 0) ⊎ (is_next (codes "F") middle.tokens ≡ false) = elim c.loop-reader-test.branch [
      | then-loop-reader-test+else-is_next w ↦ inr (sym w.is_next.ensures ∙ w.if-is_next.false)
      | else-loop-reader-test w ↦ inl (omega (arith, c.len.ensures, w.loop-reader-test.false))
    ] in
    record {
      in_range = i.read.in_range;
      passes = record {
        begun = i.read.passes.begun;
        same_fault = i.read.passes.same_fault ∙ none_forward left middle i.read.passes.begun over;
        spelling = i.read.passes.spelling;
      };
    }
