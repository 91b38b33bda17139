use Rattle.std.proofs.Common.{◌≡◌, ℕ, suc, ◌+◌, ◌-◌, List, [], ◌∷◌, ◌++◌, length, length-append, map, refl, ◌∙◌, ap, subst, arith, Vec}
use Rattle.std.specs.declared.alloc.Global.{Global}
use Rattle.proof_log.proofs.LabelLines.{label_refused, label_passed, one_more_path, reversed_in_range, reversed_line}
use Rattle.proof_log.proofs.Parts.{failed_by}
use Rattle.proof_log.specs.AnswerReading.{Passes, IsUnread, ArePathsRead, items_of}
use Rattle.proof_log.specs.AnswerRefusal.{paths_stage}
use Rattle.proof_log.specs.AnswerText.{path_line}
use Rattle.strip_model.specs.declared.end.End.TheVariants.{Backward}
use Rattle.proof_log.proofs.labels.read_backward.Goals as goal

pub returns-in_err-path-clause-unread : goal.returns-in_err-path-clause-unread
returns-in_err-path-clause-unread c =
    let i = c.loop-alloc.invariant in
    let from = paths_stage Backward c.args.wanted in
    let lines = map (path_line Backward) (items_of c.loop-alloc.paths.items) in
    let old = c.args.reader.now in
    let middle = c.loop-alloc.reader in
    let new = c.read_label.new.reader in
    let most = c.args.wanted - length c.loop-alloc.paths.items in
    let one : most ≡ suc (most - 1) = omega (arith, c.len.ensures, c.loop-alloc-test.true) in
    let P : ℕ → Type 0 = λ n. Passes from (paths_stage Backward n) lines old middle in
    failed_by (λ unread. IsUnread from old new unread) c.in_err-path.field-0.0 c.from_residual.result c.from_residual.ensures.1
    (label_refused from Backward (most - 1) lines old middle new c.in_err-path.field-0.0 (subst P one i.read.passes) refl c.in_err-path.ensures.unread)

pub loop-alloc-preserved : goal.loop-alloc-preserved
loop-alloc-preserved c =
    let i = c.loop-alloc.invariant in
    let from = paths_stage Backward c.args.wanted in
    let paths = c.loop-alloc.paths.items in
    let all = c.push.new.self.items in
    let lines = map (path_line Backward) (items_of paths) in
    let old = c.args.reader.now in
    let middle = c.loop-alloc.reader in
    let new = c.read_label.new.reader in
    let read = c.in_ok-path.path.items in
    let turned = c.reverse.new.self in
    let pushed = c.in_ok-push.ensures.items in
    let most = c.args.wanted - length paths in
    let one : most ≡ suc (most - 1) = omega (arith, c.len.ensures, c.loop-alloc-test.true) in
    let long : length all ≡ length paths + 1 = ap (λ (xs : List (Vec ℕ Global)). length xs) pushed ∙ length-append paths (turned ∷ []) in
    let left : most - 1 ≡ c.args.wanted - length all = omega (arith, long, c.len.ensures, c.loop-alloc-test.true) in
    let P : ℕ → Type 0 = λ n. Passes from (paths_stage Backward n) lines old middle in
    let L : List (List ℕ) → Type 0 = λ line. Passes from (paths_stage Backward (most - 1)) (lines ++ line ∷ []) old new in
    let N : ℕ → Type 0 = λ n. ArePathsRead Backward from (paths_stage Backward n) old new all in
    let passed = label_passed from Backward (most - 1) lines read old middle new (subst P one i.read.passes) refl c.in_ok-path.ensures.read c.in_ok-path.ensures.stands in
    record {
      few = omega (arith, long, c.len.ensures, c.loop-alloc-test.true);
      read = subst N left (one_more_path Backward from (paths_stage Backward (most - 1)) old new paths all turned pushed i.read.in_range
          (reversed_in_range read turned.items c.reverse.ensures.items c.in_ok-path.ensures.in_range)
          (subst L (reversed_line read turned.items c.reverse.ensures.items) passed));
    }
