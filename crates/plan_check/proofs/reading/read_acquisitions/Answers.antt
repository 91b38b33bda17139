use Rattle.std.proofs.Common.{◌≡◌, ◌+◌, List, [], ◌∷◌, All, length, length-append, ap, subst, sym, ◌∙◌, arith}
use Rattle.std.proofs.lemmas.List.Elements.{All-push}
use Rattle.plan_check.proofs.Lines.{spelled_more}
use Rattle.plan_check.proofs.ReadLines.{after_line, no_acquisition_read}
use Rattle.plan_check.specs.PlanText.{acquisition_line, IsAcquisitionInText}
use Rattle.seq_io.specs.StrictText.{unread}
use Rattle.strip_model.specs.declared.acquisition.Acquisition.{Acquisition}
use Rattle.plan_check.proofs.reading.read_acquisitions.Goals as goal

pub returns-in-Err : goal.returns-in-Err
returns-in-Err c =
    let i = c.loop-reader.invariant in
    record {
      rest = unread c.loop-reader.reader;
      found = record {
        few = i.few;
        in_range = i.in_range;
        lines = i.lines;
        stop = λ less. no_acquisition_read c.loop-reader.reader c.in-Err.field-0 i.begun c.in-Err.ensures.fault;
      };
      next = λ all. absurd (omega (arith, all, c.loop-reader-test.true, c.len.ensures));
    }

pub loop-reader-preserved : goal.loop-reader-preserved
loop-reader-preserved c =
    let i = c.loop-reader.invariant in
    let a = c.in-Ok.acquisition in
    let new = c.read_acquisition.new.reader in
    let pushed = c.in_ok-push-in-Ok.ensures.items in
    let line = after_line (acquisition_line a) c.loop-reader.reader new i.begun c.in-Ok.ensures.read in
    let long : length c.push.new.self.items ≡ length c.loop-reader.plan.items + 1 =
    ap (λ (xs : List Acquisition). length xs) pushed ∙ length-append c.loop-reader.plan.items (a ∷ []) in
    let P : Acquisition → Type 0 = λ a. IsAcquisitionInText a in
    let A : List Acquisition → Type 0 = λ plan. All P plan in
    record {
      few = omega (arith, long, c.len.ensures, c.loop-reader-test.true);
      in_range = subst A (sym pushed) (All-push P c.loop-reader.plan.items a i.in_range c.in-Ok.ensures.in_range);
      begun = line.begun;
      lines = spelled_more (unread c.args.reader.now) c.loop-reader.plan.items c.push.new.self.items a (unread c.loop-reader.reader) (unread new) pushed i.lines line.spelling;
    }
