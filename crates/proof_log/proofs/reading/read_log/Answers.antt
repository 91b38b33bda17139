use Rattle.std.proofs.Common.{◌≡◌, ℕ, ◌+◌, ◌-◌, [], ◌∷◌, ◌++◌, length, map, refl, subst, arith}
use Rattle.proof_log.proofs.LogLines.{lines_front, lines_heading, lines_cut, lines_forward, lines_backward, heading_passed, cut_passed, forward_passed, backward_passed, marks_passed, whole_read}
use Rattle.proof_log.proofs.Parts.{failed_by, line_refused, refused_behind}
use Rattle.proof_log.specs.AnswerReading.{IsUnread, ArePathsRead, items_of}
use Rattle.proof_log.specs.AnswerRefusal.{AtStatus, AtLog, AtCut, AtMarks, AtNothing, paths_stage}
use Rattle.plan_check.specs.PlanText.{end_line}
use Rattle.proof_log.specs.AnswerText.{mark_line}
use Rattle.strip_model.specs.declared.end.End.TheVariants.{Forward, Backward}
use Rattle.proof_log.proofs.reading.read_log.Goals as goal

pub returns-in_err-read_heading-clause-unread : goal.returns-in_err-read_heading-clause-unread
returns-in_err-read_heading-clause-unread c =
    let front = c.in_ok-front.front in
    let e = c.in_err-read_heading.ensures in
    line_refused AtStatus (AtLog front.labels) (lines_front front) c.args.reader.now c.read_front.new.reader c.read_heading.new.reader
    c.in_err-read_heading.field-0.0 c.from_residual-in_err-read_heading.result c.in_ok-front.ensures.read.passes e.fault e.line c.from_residual-in_err-read_heading.ensures.1

pub returns-in_err-cut-clause-unread : goal.returns-in_err-cut-clause-unread
returns-in_err-cut-clause-unread c =
    let front = c.in_ok-front.front in
    let old = c.args.reader.now in
    let h = c.in_ok-read_heading.ensures in
    let p1 = heading_passed front old c.read_front.new.reader c.read_heading.new.reader c.in_ok-front.ensures.read h.read h.fault in
    let e = c.in_err-cut.ensures in
    line_refused AtStatus (AtCut front.labels) (lines_heading front) old c.read_heading.new.reader c.read_number.new.reader
    c.in_err-cut.field-0.0 c.from_residual-in_err-cut.result p1 e.fault e.line c.from_residual-in_err-cut.ensures.1

pub read_forward-requires : goal.read_forward-requires
read_forward-requires c =
    let front = c.in_ok-front.front in
    let old = c.args.reader.now in
    let h = c.in_ok-read_heading.ensures in
    let k = c.in_ok-cut.ensures in
    let p1 = heading_passed front old c.read_front.new.reader c.read_heading.new.reader c.in_ok-front.ensures.read h.read h.fault in
    (cut_passed front c.in_ok-cut.cut old c.read_heading.new.reader c.read_number.new.reader p1 k.read k.fault).begun

pub returns-in_err-forward-clause-unread : goal.returns-in_err-forward-clause-unread
returns-in_err-forward-clause-unread c =
    let front = c.in_ok-front.front in
    let cut = c.in_ok-cut.cut in
    let old = c.args.reader.now in
    let r2 = c.read_number.new.reader in
    let r3 = c.read_forward.new.reader in
    let h = c.in_ok-read_heading.ensures in
    let k = c.in_ok-cut.ensures in
    let p1 = heading_passed front old c.read_front.new.reader c.read_heading.new.reader c.in_ok-front.ensures.read h.read h.fault in
    let p2 = cut_passed front cut old c.read_heading.new.reader r2 p1 k.read k.fault in
    failed_by (λ unread. IsUnread AtStatus old r3 unread) c.in_err-forward.field-0.0 c.from_residual-in_err-forward.result c.from_residual-in_err-forward.ensures.1
    (refused_behind AtStatus (paths_stage Forward front.labels) (lines_cut front cut) old r2 r3 c.in_err-forward.field-0.0 p2 c.in_err-forward.ensures.unread)

pub returns-in_err-backward-clause-unread : goal.returns-in_err-backward-clause-unread
returns-in_err-backward-clause-unread c =
    let front = c.in_ok-front.front in
    let cut = c.in_ok-cut.cut in
    let forward = c.in_ok-forward.forward.items in
    let old = c.args.reader.now in
    let r2 = c.read_number.new.reader in
    let r3 = c.read_forward.new.reader in
    let r4 = c.read_backward.new.reader in
    let h = c.in_ok-read_heading.ensures in
    let k = c.in_ok-cut.ensures in
    let p1 = heading_passed front old c.read_front.new.reader c.read_heading.new.reader c.in_ok-front.ensures.read h.read h.fault in
    let p2 = cut_passed front cut old c.read_heading.new.reader r2 p1 k.read k.fault in
    let left = front.labels - c.len.result in
    let long : length forward ≡ c.len.result = omega (arith, c.len.ensures) in
    let R : ℕ → Type 0 = λ n. ArePathsRead Forward (paths_stage Forward front.labels) (paths_stage Backward (front.labels - n)) r2 r3 forward in
    let p3 = forward_passed front cut left forward old r2 r3 p2 (subst R long c.in_ok-forward.ensures.read) in
    failed_by (λ unread. IsUnread AtStatus old r4 unread) c.in_err-backward.field-0.0 c.from_residual-in_err-backward.result c.from_residual-in_err-backward.ensures.1
    (refused_behind AtStatus (paths_stage Backward left) (lines_forward front cut (items_of forward)) old r3 r4
    c.in_err-backward.field-0.0 p3 c.in_err-backward.ensures.unread)

pub returns-in_err-marks-clause-unread : goal.returns-in_err-marks-clause-unread
returns-in_err-marks-clause-unread c =
    let front = c.in_ok-front.front in
    let cut = c.in_ok-cut.cut in
    let forward = c.in_ok-forward.forward.items in
    let backward = c.in_ok-backward.backward.items in
    let left = front.labels - c.len.result in
    let old = c.args.reader.now in
    let r2 = c.read_number.new.reader in
    let r3 = c.read_forward.new.reader in
    let r4 = c.read_backward.new.reader in
    let r5 = c.read_marks.new.reader in
    let h = c.in_ok-read_heading.ensures in
    let k = c.in_ok-cut.ensures in
    let p1 = heading_passed front old c.read_front.new.reader c.read_heading.new.reader c.in_ok-front.ensures.read h.read h.fault in
    let p2 = cut_passed front cut old c.read_heading.new.reader r2 p1 k.read k.fault in
    let long : length forward ≡ c.len.result = omega (arith, c.len.ensures) in
    let R : ℕ → Type 0 = λ n. ArePathsRead Forward (paths_stage Forward front.labels) (paths_stage Backward (front.labels - n)) r2 r3 forward in
    let p3 = forward_passed front cut left forward old r2 r3 p2 (subst R long c.in_ok-forward.ensures.read) in
    let p4 = backward_passed front cut left forward backward old r3 r4 p3 c.in_ok-backward.ensures.read in
    failed_by (λ unread. IsUnread AtStatus old r5 unread) c.in_err-marks.field-0.0 c.from_residual-in_err-marks.result c.from_residual-in_err-marks.ensures.1
    (refused_behind AtStatus AtMarks (lines_backward front cut (items_of forward) (items_of backward)) old r4 r5 c.in_err-marks.field-0.0 p4 c.in_err-marks.ensures.unread)

pub returns-in_err-text_end-clause-unread : goal.returns-in_err-text_end-clause-unread
returns-in_err-text_end-clause-unread c =
    let front = c.in_ok-front.front in
    let cut = c.in_ok-cut.cut in
    let forward = c.in_ok-forward.forward.items in
    let backward = c.in_ok-backward.backward.items in
    let left = front.labels - c.len.result in
    let old = c.args.reader.now in
    let r2 = c.read_number.new.reader in
    let r3 = c.read_forward.new.reader in
    let r4 = c.read_backward.new.reader in
    let r5 = c.read_marks.new.reader in
    let h = c.in_ok-read_heading.ensures in
    let k = c.in_ok-cut.ensures in
    let p1 = heading_passed front old c.read_front.new.reader c.read_heading.new.reader c.in_ok-front.ensures.read h.read h.fault in
    let p2 = cut_passed front cut old c.read_heading.new.reader r2 p1 k.read k.fault in
    let long : length forward ≡ c.len.result = omega (arith, c.len.ensures) in
    let R : ℕ → Type 0 = λ n. ArePathsRead Forward (paths_stage Forward front.labels) (paths_stage Backward (front.labels - n)) r2 r3 forward in
    let p3 = forward_passed front cut left forward old r2 r3 p2 (subst R long c.in_ok-forward.ensures.read) in
    let p4 = backward_passed front cut left forward backward old r3 r4 p3 c.in_ok-backward.ensures.read in
    let marks = c.in_ok-marks.marks.items in
    let p5 = marks_passed front cut forward backward marks old r4 r5 p4 c.in_ok-marks.ensures.read in
    line_refused AtStatus AtNothing (lines_backward front cut (items_of forward) (items_of backward) ++ (map mark_line marks ++ end_line ∷ [])) old r5 r5
    c.in_err-text_end.field-0.0 c.from_residual-in_err-text_end.result p5 c.in_err-text_end.ensures refl c.from_residual-in_err-text_end.ensures.1

pub returns-clause-read : goal.returns-clause-read
returns-clause-read c =
    let front = c.in_ok-front.front in
    let cut = c.in_ok-cut.cut in
    let forward = c.in_ok-forward.forward.items in
    let backward = c.in_ok-backward.backward.items in
    let left = front.labels - c.len.result in
    let old = c.args.reader.now in
    let r2 = c.read_number.new.reader in
    let r3 = c.read_forward.new.reader in
    let r4 = c.read_backward.new.reader in
    let r5 = c.read_marks.new.reader in
    let h = c.in_ok-read_heading.ensures in
    let k = c.in_ok-cut.ensures in
    let p1 = heading_passed front old c.read_front.new.reader c.read_heading.new.reader c.in_ok-front.ensures.read h.read h.fault in
    let p2 = cut_passed front cut old c.read_heading.new.reader r2 p1 k.read k.fault in
    let long : length forward ≡ c.len.result = omega (arith, c.len.ensures) in
    let R : ℕ → Type 0 = λ n. ArePathsRead Forward (paths_stage Forward front.labels) (paths_stage Backward (front.labels - n)) r2 r3 forward in
    let p3 = forward_passed front cut left forward old r2 r3 p2 (subst R long c.in_ok-forward.ensures.read) in
    let p4 = backward_passed front cut left forward backward old r3 r4 p3 c.in_ok-backward.ensures.read in
    let marks = c.in_ok-marks.marks.items in
    let p5 = marks_passed front cut forward backward marks old r4 r5 p4 c.in_ok-marks.ensures.read in
    let all : length forward + length backward ≡ front.labels = omega (arith, c.in_ok-forward.ensures.few, c.in_ok-backward.ensures.all, c.len.ensures) in
    whole_read front _ old c.read_front.new.reader r5 c.in_ok-front.ensures.read refl refl all k.limit
    c.in_ok-forward.ensures.read.in_range c.in_ok-backward.ensures.read.in_range c.in_ok-marks.ensures.read.in_range p5 c.in_ok-text_end.ensures
