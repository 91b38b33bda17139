use Rattle.std.proofs.Common.{◌≡◌, length, refl, ◌∙◌, rules, inr}
use Rattle.std.proofs.lemmas.Result.{err_from_is_err_and}
use Rattle.instance_text.specs.Reading.{orbit_of}
use Rattle.instance_text.specs.Refusal.{IsRefusal}
use Rattle.instance_text.specs.Text.{IsText}
use Rattle.instance_text.proofs.Only.{memory_only, not_refused}
use Rattle.instance_text.proofs.OneValue.{equal_from_text}
use Rattle.instance_text.proofs.reading.read.Goals as goal

-- where a rule is broken, the line is that of the strip or of the row
broken : (c : goal.After-line_number) → IsRefusal c.args.bytes.now (record { line = c.line_number.result; cause = c.in-Err-Broken.cause })
broken c =
    let contents = c.in_ok-contents.contents in
    let requests : c.len-requests.result ≡ length contents.requests.items = search rules in
    let strips : c.len-strips.result ≡ length contents.strips.items = search rules in
    inr (
      orbit_of contents,
      record {
        form = c.in_ok-contents.ensures.form;
        said = c.in_ok-contents.ensures.said;
        limits = c.in_ok-contents.ensures.limits;
        breach = rw c.in-Err-Broken.field-0-is at c.in-Err-Broken.ensures.unmade;
        line = rw (c.line_number.ensures, c.place_of.ensures, requests, strips) refl;
      },
    )

pub returns-in-Err-Broken-clause-refused : goal.returns-in-Err-Broken-clause-refused
returns-in-Err-Broken-clause-refused c = broken c

pub returns-in-Err-Broken-clause-only : goal.returns-in-Err-Broken-clause-only
returns-in-Err-Broken-clause-only c = λ J text. absurd (not_refused c.args.bytes.now J _ text (broken c))

pub returns-in_err-contents-clause-only : goal.returns-in_err-contents-clause-only
returns-in_err-contents-clause-only c =
    let p = err_from_is_err_and c.from_residual.result c.from_residual.ensures.1 in
    λ J text. rw p.1 (p.2 ∙ memory_only c.args.bytes.now c.in_err-contents.field-0.0 J text c.in_err-contents.ensures.refused)

pub returns-in-Ok-clause-only : goal.returns-in-Ok-clause-only
returns-in-Ok-clause-only c =
    let contents = c.in_ok-contents.contents in
    let text : IsText c.args.bytes.now (orbit_of contents) = record {
      sound = rw c.in-Ok.ensures.made at c.in-Ok.ensures.sound;
      windows = c.in_ok-contents.ensures.limits.windows;
      lines = c.in_ok-contents.ensures.said;
    } in
    λ J other. c.in-Ok.ensures.made ∙ equal_from_text c.args.bytes.now (orbit_of contents) J text other
