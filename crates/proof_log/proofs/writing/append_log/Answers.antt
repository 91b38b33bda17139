use Rattle.std.proofs.Common.{◌≡◌, ℕ, List, ◌++◌, codes, map, ◌∙◌, ap, Vec}
use Rattle.std.specs.List.{flat_map}
use Rattle.std.specs.declared.alloc.Global.{Global}
use Rattle.plan_check.specs.PlanText.{end_line}
use Rattle.proof_log.proofs.Written.{log_written, on_ok, grew_by_line}
use Rattle.proof_log.specs.AnswerReading.{items_of}
use Rattle.proof_log.specs.AnswerText.{word_line, number_line, path_line, mark_line, log_lines}
use Rattle.proof_log.specs.declared.mark.Mark.{Mark}
use Rattle.seq_io.proofs.Lines.{Grew-append}
use Rattle.seq_io.specs.Line.{spelled_line}
use Rattle.strip_model.specs.declared.end.End.TheVariants.{Forward, Backward}
use Rattle.proof_log.proofs.writing.append_log.Goals as goal

pub returns-clause-ok : goal.returns-clause-ok
returns-clause-ok c =
    let log = c.args.log.now in
    let old = c.args.out.now.items in
    let o1 = c.put_line.new.out.items in
    let o2 = c.put_line-2.new.out.items in
    let o3 = c.append_paths.new.out.items in
    let o4 = c.append_paths-2.new.out.items in
    let o5 = c.append_marks.new.out.items in
    let o6 = c.put_line-3.new.out.items in
    let C : ℕ → List ℕ = λ n. o1 ++ spelled_line (number_line (codes "cut") n) in
    let F : List (Vec ℕ Global) → List ℕ = λ paths. o2 ++ flat_map spelled_line (map (path_line Forward) (items_of paths)) in
    let B : List (Vec ℕ Global) → List ℕ = λ paths. o3 ++ flat_map spelled_line (map (path_line Backward) (items_of paths)) in
    let M : List Mark → List ℕ = λ marks. o4 ++ flat_map spelled_line (map mark_line marks) in
    on_ok c.put_line-3.result (o6 ≡ o5 ++ spelled_line end_line) (o6 ≡ old ++ flat_map spelled_line (log_lines log)) c.put_line-3.ensures.ok
    (log_written log old o1 o2 o3 o4 o5 o6 c.in_ok-put_line.ensures.ok (c.in_ok-put_line-2.ensures.ok ∙ ap C c.from.ensures)
    (c.in_ok-append_paths.ensures.ok ∙ ap F c.deref.ensures.value)
    (c.in_ok-append_paths-2.ensures.ok ∙ ap B c.deref-2.ensures.value)
    (c.in_ok-append_marks.ensures.ok ∙ ap M c.deref-3.ensures.value))

pub returns-clause-grew : goal.returns-clause-grew
returns-clause-grew c =
    let old = c.args.out.now.items in
    let o1 = c.put_line.new.out.items in
    let o2 = c.put_line-2.new.out.items in
    let o3 = c.append_paths.new.out.items in
    let o4 = c.append_paths-2.new.out.items in
    let o5 = c.append_marks.new.out.items in
    let o6 = c.put_line-3.new.out.items in
    let last = grew_by_line c.put_line-3.result o5 o6 (spelled_line end_line) c.put_line-3.ensures.ok c.put_line-3.ensures.err in
    let from_marks = Grew-append o4 o5 o6 _ c.in_ok-append_marks.ensures.ok last in
    let from_backward = Grew-append o3 o4 o6 _ c.in_ok-append_paths-2.ensures.ok from_marks in
    let from_forward = Grew-append o2 o3 o6 _ c.in_ok-append_paths.ensures.ok from_backward in
    let from_cut = Grew-append o1 o2 o6 (spelled_line (number_line (codes "cut") c.from.result)) c.in_ok-put_line-2.ensures.ok from_forward in
    Grew-append old o1 o6 (spelled_line (word_line (codes "log"))) c.in_ok-put_line.ensures.ok from_cut
