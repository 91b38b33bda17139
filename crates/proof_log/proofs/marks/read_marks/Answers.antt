use Rattle.std.proofs.Common.{◌≡◌, ℕ, false, List, [], ◌∷◌, ◌++◌, codes, All, map, refl, sym, ◌∙◌, ap, subst}
use Rattle.std.proofs.lemmas.List.{map-append}
use Rattle.std.proofs.lemmas.List.Elements.{All-push}
use Rattle.plan_check.specs.PlanText.{end_line}
use Rattle.proof_log.proofs.Parts.{line_refused, line_passed, fewer_left}
use Rattle.proof_log.specs.AnswerReading.{Passes}
use Rattle.proof_log.specs.AnswerRefusal.{Stage, AtMarks, stage_after, stage_fault}
use Rattle.proof_log.specs.AnswerText.{mark_line, IsMarkInText}
use Rattle.proof_log.specs.declared.mark.Mark.{Mark}
use Rattle.proof_log.specs.declared.mark.Mark.TheVariants.{Retire, Cut}
use Rattle.seq_io.specs.StrictText.{Rest, TheWord, is_next, line_fault}
use Rattle.proof_log.proofs.marks.read_marks.Goals as goal

-- after a mark more of them may come
marks_go_on : (mark : Mark) → stage_after AtMarks (mark_line mark) ≡ AtMarks
marks_go_on (Retire e a b) = refl
marks_go_on (Cut e a) = refl

-- where the line is that of no mark, it must be `end`
must_be_end : (rest : Rest) → is_next (codes "R") rest.tokens ≡ false → is_next (codes "C") rest.tokens ≡ false
    → stage_fault AtMarks rest ≡ line_fault (TheWord (codes "end") ∷ []) rest
must_be_end rest r c = rw (r, c) refl

pub returns-in_err-read_mark-clause-unread : goal.returns-in_err-read_mark-clause-unread
returns-in_err-read_mark-clause-unread c =
    let i = c.loop-reader.invariant in
    line_refused AtMarks AtMarks (map mark_line c.loop-reader.marks.items) c.args.reader.now c.loop-reader.reader c.read_mark.new.reader
    c.in_err-read_mark.field-0.0 c.from_residual.result i.passes c.in_err-read_mark.ensures.fault c.in_err-read_mark.ensures.line c.from_residual.ensures.1

pub loop-reader-smaller : goal.loop-reader-smaller
loop-reader-smaller c =
    fewer_left (mark_line c.in_ok-read_mark.field-0) c.loop-reader.reader c.read_mark.new.reader c.loop-reader.invariant.passes.begun c.in_ok-read_mark.ensures.read

pub loop-reader-preserved : goal.loop-reader-preserved
loop-reader-preserved c =
    let i = c.loop-reader.invariant in
    let marks = c.loop-reader.marks.items in
    let mark = c.in_ok-read_mark.field-0 in
    let old = c.args.reader.now in
    let new = c.read_mark.new.reader in
    let pushed = c.in_ok-push.ensures.items in
    let passed = line_passed AtMarks AtMarks (map mark_line marks) (mark_line mark) old c.loop-reader.reader new
    i.passes c.in_ok-read_mark.ensures.read (sym c.in_ok-read_mark.ensures.fault) in
    let S : Stage → Type 0 = λ to. Passes AtMarks to (map mark_line marks ++ mark_line mark ∷ []) old new in
    let L : List (List (List ℕ)) → Type 0 = λ lines. Passes AtMarks AtMarks lines old new in
    let I : Mark → Type 0 = λ mark. IsMarkInText mark in
    let A : List Mark → Type 0 = λ marks. All I marks in
    record {
      in_range = subst A (sym pushed) (All-push I marks mark i.in_range c.in_ok-read_mark.ensures.in_range);
      passes = subst L (sym (map-append mark_line marks (mark ∷ [])) ∙ ap (λ (xs : List Mark). map mark_line xs) (sym pushed)) (subst S (marks_go_on mark) passed);
    }

pub returns-in_err-read_heading-clause-unread : goal.returns-in_err-read_heading-clause-unread
returns-in_err-read_heading-clause-unread c =
    let i = c.loop-reader.invariant in
    let middle = c.loop-reader.reader in
    let end = must_be_end middle (sym c.is_next.ensures ∙ c.if-is_next.false) (sym c.is_next-else-is_next.ensures ∙ c.if-is_next-2.false) in
    line_refused AtMarks AtMarks (map mark_line c.loop-reader.marks.items) c.args.reader.now middle c.read_heading.new.reader
    c.in_err-read_heading.field-0.0 c.from_residual-in_err-read_heading.result i.passes
    (c.in_err-read_heading.ensures.fault ∙ sym end) c.in_err-read_heading.ensures.line c.from_residual-in_err-read_heading.ensures.1

pub returns-clause-read : goal.returns-clause-read
returns-clause-read c =
    let i = c.loop-reader.invariant in
    let middle = c.loop-reader.reader in
    let end = must_be_end middle (sym c.is_next.ensures ∙ c.if-is_next.false) (sym c.is_next-else-is_next.ensures ∙ c.if-is_next-2.false) in
    record {
      in_range = i.in_range;
      passes = line_passed AtMarks AtMarks (map mark_line c.loop-reader.marks.items) end_line c.args.reader.now middle c.read_heading.new.reader
          i.passes c.in_ok-read_heading.ensures.read (end ∙ sym c.in_ok-read_heading.ensures.fault);
    }
