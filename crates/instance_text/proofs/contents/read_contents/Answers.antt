use Rattle.std.proofs.Common.{◌≡◌, [], ◌∷◌, sym, ap, ◌∙◌, codes}
use Rattle.std.proofs.lemmas.List.{length-map}
use Rattle.std.proofs.lemmas.Result.{err_from_is_err_and}
use Rattle.instance_text.specs.Reading.{Rest}
use Rattle.instance_text.specs.Shape.{form_fault, form_of, heading_fields}
use Rattle.instance_text.specs.Spelling.{request_line}
use Rattle.instance_text.proofs.Forms.{fault_in, after_strips, after_heading, at_requests, at_strip_count, at_strips, refused_at_orbit, refused_at_request_count, refused_at_requests, refused_at_strip_count, refused_in_run, refused_alike}
use Rattle.instance_text.proofs.contents.read_contents.Goals as goal

pub returns-in_err-orbit-clause-refused : goal.returns-in_err-orbit-clause-refused
returns-in_err-orbit-clause-refused c =
    let p = err_from_is_err_and c.from_residual.result c.from_residual.ensures.1 in
    let start : form_fault c.args.bytes.now ≡ fault_in (form_of c.new-reader.result.lines) c.new-reader.result = sym (ap (λ (rest : Rest). fault_in (form_of rest.lines) rest) c.new-reader.ensures) in
    rw (p.1, p.2) (start ∙ refused_at_orbit c.new-reader.result _ c.in_err-orbit.ensures.refused)

pub returns-in_err-request_count-clause-refused : goal.returns-in_err-request_count-clause-refused
returns-in_err-request_count-clause-refused c =
    let p = err_from_is_err_and c.from_residual-in_err-request_count.result c.from_residual-in_err-request_count.ensures.1 in
    let start : form_fault c.args.bytes.now ≡ fault_in (form_of c.new-reader.result.lines) c.new-reader.result = sym (ap (λ (rest : Rest). fault_in (form_of rest.lines) rest) c.new-reader.ensures) in
    rw (p.1, p.2) (start ∙ refused_at_request_count c.new-reader.result c.orbit.new.reader _ c.in_ok-orbit.ensures.passes c.in_err-request_count.ensures.refused)

pub returns-in_err-requests-clause-refused : goal.returns-in_err-requests-clause-refused
returns-in_err-requests-clause-refused c =
    let p = err_from_is_err_and c.from_residual-in_err-requests.result c.from_residual-in_err-requests.ensures.1 in
    let start : form_fault c.args.bytes.now ≡ fault_in (form_of c.new-reader.result.lines) c.new-reader.result = sym (ap (λ (rest : Rest). fault_in (form_of rest.lines) rest) c.new-reader.ensures) in
    let a2 = at_requests c.new-reader.result c.orbit.new.reader c.count.new.reader _ _ c.in_ok-request_count.request_count c.in_ok-request_count.ensures.limit c.in_ok-orbit.ensures.passes c.in_ok-orbit.ensures.words c.in_ok-request_count.ensures.passes c.in_ok-request_count.ensures.words in
    rw (p.1, p.2) (refused_alike c.in_err-requests.field-0.0 _ _ start (refused_at_requests c.new-reader.result c.count.new.reader c.in_ok-request_count.request_count c.in_err-requests.field-0.0 a2 c.in_err-requests.ensures.refused))

pub returns-in_err-strip_count-clause-refused : goal.returns-in_err-strip_count-clause-refused
returns-in_err-strip_count-clause-refused c =
    let p = err_from_is_err_and c.from_residual-in_err-strip_count.result c.from_residual-in_err-strip_count.ensures.1 in
    let start : form_fault c.args.bytes.now ≡ fault_in (form_of c.new-reader.result.lines) c.new-reader.result = sym (ap (λ (rest : Rest). fault_in (form_of rest.lines) rest) c.new-reader.ensures) in
    let a2 = at_requests c.new-reader.result c.orbit.new.reader c.count.new.reader _ _ c.in_ok-request_count.request_count c.in_ok-request_count.ensures.limit c.in_ok-orbit.ensures.passes c.in_ok-orbit.ensures.words c.in_ok-request_count.ensures.passes c.in_ok-request_count.ensures.words in
    let a3 = at_strip_count c.new-reader.result c.count.new.reader c.requests.new.reader c.in_ok-request_count.request_count _ a2 c.in_ok-requests.ensures.passes c.in_ok-requests.ensures.words (length-map _ request_line ∙ c.in_ok-requests.ensures.length) in
    rw (p.1, p.2) (start ∙ refused_at_strip_count c.new-reader.result c.requests.new.reader c.in_ok-request_count.request_count _ a3 c.in_err-strip_count.ensures.refused)

pub returns-in_err-strips-clause-refused : goal.returns-in_err-strips-clause-refused
returns-in_err-strips-clause-refused c =
    let p = err_from_is_err_and c.from_residual-in_err-strips.result c.from_residual-in_err-strips.ensures.1 in
    let start : form_fault c.args.bytes.now ≡ fault_in (form_of c.new-reader.result.lines) c.new-reader.result = sym (ap (λ (rest : Rest). fault_in (form_of rest.lines) rest) c.new-reader.ensures) in
    let a2 = at_requests c.new-reader.result c.orbit.new.reader c.count.new.reader _ _ c.in_ok-request_count.request_count c.in_ok-request_count.ensures.limit c.in_ok-orbit.ensures.passes c.in_ok-orbit.ensures.words c.in_ok-request_count.ensures.passes c.in_ok-request_count.ensures.words in
    let a3 = at_strip_count c.new-reader.result c.count.new.reader c.requests.new.reader c.in_ok-request_count.request_count _ a2 c.in_ok-requests.ensures.passes c.in_ok-requests.ensures.words (length-map _ request_line ∙ c.in_ok-requests.ensures.length) in
    let a4 = at_strips c.new-reader.result c.requests.new.reader c.count-2.new.reader c.in_ok-request_count.request_count c.in_ok-strip_count.strip_count _ c.in_ok-strip_count.ensures.limit a3 c.in_ok-strip_count.ensures.passes c.in_ok-strip_count.ensures.words in
    rw (p.1, p.2) (refused_in_run c.in_err-strips.field-0.0 _ (after_strips c.in_ok-strip_count.strip_count) c.count-2.new.reader _ (start ∙ a4) c.in_err-strips.ensures.refused)

pub returns-in_err-heading-clause-refused : goal.returns-in_err-heading-clause-refused
returns-in_err-heading-clause-refused c =
    let p = err_from_is_err_and c.from_residual-in_err-heading.result c.from_residual-in_err-heading.ensures.1 in
    let start : form_fault c.args.bytes.now ≡ fault_in (form_of c.new-reader.result.lines) c.new-reader.result = sym (ap (λ (rest : Rest). fault_in (form_of rest.lines) rest) c.new-reader.ensures) in
    let a2 = at_requests c.new-reader.result c.orbit.new.reader c.count.new.reader _ _ c.in_ok-request_count.request_count c.in_ok-request_count.ensures.limit c.in_ok-orbit.ensures.passes c.in_ok-orbit.ensures.words c.in_ok-request_count.ensures.passes c.in_ok-request_count.ensures.words in
    let a3 = at_strip_count c.new-reader.result c.count.new.reader c.requests.new.reader c.in_ok-request_count.request_count _ a2 c.in_ok-requests.ensures.passes c.in_ok-requests.ensures.words (length-map _ request_line ∙ c.in_ok-requests.ensures.length) in
    let a4 = at_strips c.new-reader.result c.requests.new.reader c.count-2.new.reader c.in_ok-request_count.request_count c.in_ok-strip_count.strip_count _ c.in_ok-strip_count.ensures.limit a3 c.in_ok-strip_count.ensures.passes c.in_ok-strip_count.ensures.words in
    let a5 = a4 ∙ c.in_ok-strips.ensures.passes (after_strips c.in_ok-strip_count.strip_count) in
    rw (p.1, p.2) (start ∙ a5 ∙ c.in_err-heading.ensures.refused (after_heading c.in_ok-strip_count.strip_count))

pub returns-in_err-entries-clause-refused : goal.returns-in_err-entries-clause-refused
returns-in_err-entries-clause-refused c =
    let p = err_from_is_err_and c.from_residual-in_err-entries.result c.from_residual-in_err-entries.ensures.1 in
    let start : form_fault c.args.bytes.now ≡ fault_in (form_of c.new-reader.result.lines) c.new-reader.result = sym (ap (λ (rest : Rest). fault_in (form_of rest.lines) rest) c.new-reader.ensures) in
    let a2 = at_requests c.new-reader.result c.orbit.new.reader c.count.new.reader _ _ c.in_ok-request_count.request_count c.in_ok-request_count.ensures.limit c.in_ok-orbit.ensures.passes c.in_ok-orbit.ensures.words c.in_ok-request_count.ensures.passes c.in_ok-request_count.ensures.words in
    let a3 = at_strip_count c.new-reader.result c.count.new.reader c.requests.new.reader c.in_ok-request_count.request_count _ a2 c.in_ok-requests.ensures.passes c.in_ok-requests.ensures.words (length-map _ request_line ∙ c.in_ok-requests.ensures.length) in
    let a4 = at_strips c.new-reader.result c.requests.new.reader c.count-2.new.reader c.in_ok-request_count.request_count c.in_ok-strip_count.strip_count _ c.in_ok-strip_count.ensures.limit a3 c.in_ok-strip_count.ensures.passes c.in_ok-strip_count.ensures.words in
    let a5 = a4 ∙ c.in_ok-strips.ensures.passes (after_strips c.in_ok-strip_count.strip_count) in
    let a6 = a5 ∙ c.in_ok-heading.ensures.passes (after_heading c.in_ok-strip_count.strip_count) in
    rw (p.1, p.2) (refused_in_run c.in_err-entries.field-0.0 _ (heading_fields (codes "end") ∷ []) c.heading.new.reader _ (start ∙ a6) c.in_err-entries.ensures.refused)

pub returns-in_err-heading-2-clause-refused : goal.returns-in_err-heading-2-clause-refused
returns-in_err-heading-2-clause-refused c =
    let p = err_from_is_err_and c.from_residual-in_err-heading-2.result c.from_residual-in_err-heading-2.ensures.1 in
    let start : form_fault c.args.bytes.now ≡ fault_in (form_of c.new-reader.result.lines) c.new-reader.result = sym (ap (λ (rest : Rest). fault_in (form_of rest.lines) rest) c.new-reader.ensures) in
    let a2 = at_requests c.new-reader.result c.orbit.new.reader c.count.new.reader _ _ c.in_ok-request_count.request_count c.in_ok-request_count.ensures.limit c.in_ok-orbit.ensures.passes c.in_ok-orbit.ensures.words c.in_ok-request_count.ensures.passes c.in_ok-request_count.ensures.words in
    let a3 = at_strip_count c.new-reader.result c.count.new.reader c.requests.new.reader c.in_ok-request_count.request_count _ a2 c.in_ok-requests.ensures.passes c.in_ok-requests.ensures.words (length-map _ request_line ∙ c.in_ok-requests.ensures.length) in
    let a4 = at_strips c.new-reader.result c.requests.new.reader c.count-2.new.reader c.in_ok-request_count.request_count c.in_ok-strip_count.strip_count _ c.in_ok-strip_count.ensures.limit a3 c.in_ok-strip_count.ensures.passes c.in_ok-strip_count.ensures.words in
    let a5 = a4 ∙ c.in_ok-strips.ensures.passes (after_strips c.in_ok-strip_count.strip_count) in
    let a6 = a5 ∙ c.in_ok-heading.ensures.passes (after_heading c.in_ok-strip_count.strip_count) in
    let a7 = a6 ∙ c.in_ok-entries.ensures.passes (heading_fields (codes "end") ∷ []) in
    rw (p.1, p.2) (start ∙ a7 ∙ c.in_err-heading-2.ensures.refused [])

pub returns-in_err-end-clause-refused : goal.returns-in_err-end-clause-refused
returns-in_err-end-clause-refused c =
    let p = err_from_is_err_and c.from_residual-in_err-end.result c.from_residual-in_err-end.ensures.1 in
    let start : form_fault c.args.bytes.now ≡ fault_in (form_of c.new-reader.result.lines) c.new-reader.result = sym (ap (λ (rest : Rest). fault_in (form_of rest.lines) rest) c.new-reader.ensures) in
    let a2 = at_requests c.new-reader.result c.orbit.new.reader c.count.new.reader _ _ c.in_ok-request_count.request_count c.in_ok-request_count.ensures.limit c.in_ok-orbit.ensures.passes c.in_ok-orbit.ensures.words c.in_ok-request_count.ensures.passes c.in_ok-request_count.ensures.words in
    let a3 = at_strip_count c.new-reader.result c.count.new.reader c.requests.new.reader c.in_ok-request_count.request_count _ a2 c.in_ok-requests.ensures.passes c.in_ok-requests.ensures.words (length-map _ request_line ∙ c.in_ok-requests.ensures.length) in
    let a4 = at_strips c.new-reader.result c.requests.new.reader c.count-2.new.reader c.in_ok-request_count.request_count c.in_ok-strip_count.strip_count _ c.in_ok-strip_count.ensures.limit a3 c.in_ok-strip_count.ensures.passes c.in_ok-strip_count.ensures.words in
    let a5 = a4 ∙ c.in_ok-strips.ensures.passes (after_strips c.in_ok-strip_count.strip_count) in
    let a6 = a5 ∙ c.in_ok-heading.ensures.passes (after_heading c.in_ok-strip_count.strip_count) in
    let a7 = a6 ∙ c.in_ok-entries.ensures.passes (heading_fields (codes "end") ∷ []) in
    let a8 = a7 ∙ c.in_ok-heading-2.ensures.passes [] in
    rw (p.1, p.2) (start ∙ a8 ∙ c.in_err-end.ensures.refused)

pub returns-clause-form : goal.returns-clause-form
returns-clause-form c =
    let start : form_fault c.args.bytes.now ≡ fault_in (form_of c.new-reader.result.lines) c.new-reader.result = sym (ap (λ (rest : Rest). fault_in (form_of rest.lines) rest) c.new-reader.ensures) in
    let a2 = at_requests c.new-reader.result c.orbit.new.reader c.count.new.reader _ _ c.in_ok-request_count.request_count c.in_ok-request_count.ensures.limit c.in_ok-orbit.ensures.passes c.in_ok-orbit.ensures.words c.in_ok-request_count.ensures.passes c.in_ok-request_count.ensures.words in
    let a3 = at_strip_count c.new-reader.result c.count.new.reader c.requests.new.reader c.in_ok-request_count.request_count _ a2 c.in_ok-requests.ensures.passes c.in_ok-requests.ensures.words (length-map _ request_line ∙ c.in_ok-requests.ensures.length) in
    let a4 = at_strips c.new-reader.result c.requests.new.reader c.count-2.new.reader c.in_ok-request_count.request_count c.in_ok-strip_count.strip_count _ c.in_ok-strip_count.ensures.limit a3 c.in_ok-strip_count.ensures.passes c.in_ok-strip_count.ensures.words in
    let a5 = a4 ∙ c.in_ok-strips.ensures.passes (after_strips c.in_ok-strip_count.strip_count) in
    let a6 = a5 ∙ c.in_ok-heading.ensures.passes (after_heading c.in_ok-strip_count.strip_count) in
    let a7 = a6 ∙ c.in_ok-entries.ensures.passes (heading_fields (codes "end") ∷ []) in
    let a8 = a7 ∙ c.in_ok-heading-2.ensures.passes [] in
    start ∙ a8 ∙ c.in_ok-end.ensures.passes
