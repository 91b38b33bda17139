use Rattle.std.proofs.lemmas.Result.{err_from_is_err_and}
use Rattle.instance_text.specs.Shape.{row_fields}
use Rattle.instance_text.proofs.LineForms.{fields_refused, end_refused, end_passes}
use Rattle.instance_text.proofs.line_kinds.row.Goals as goal

pub returns-in_err-entries-clause-refused : goal.returns-in_err-entries-clause-refused
returns-in_err-entries-clause-refused c =
    let p = err_from_is_err_and c.from_residual-in_err-entries.result c.from_residual-in_err-entries.ensures.1 in
    rw (p.1, p.2) (fields_refused c.in_err-entries.field-0.0 (row_fields c.args.size) c.args.reader.now c.in_ok-line.line _ c.in_ok-line.ensures.line c.in_err-entries.ensures.refused)

pub returns-in_err-end-clause-refused : goal.returns-in_err-end-clause-refused
returns-in_err-end-clause-refused c =
    let p = err_from_is_err_and c.from_residual-in_err-end.result c.from_residual-in_err-end.ensures.1 in
    rw (p.1, p.2) (end_refused (row_fields c.args.size) c.args.reader.now c.in_ok-line.line _ _ _ c.in_ok-line.ensures.line c.in_ok-entries.ensures.passes c.in_err-end.ensures.refused)

pub returns-clause-passes : goal.returns-clause-passes
returns-clause-passes c =
    end_passes (row_fields c.args.size) c.args.reader.now c.line.new.self c.in_ok-line.line c.entries.new.line c.in_ok-line.ensures.line c.in_ok-line.ensures.count c.in_ok-entries.ensures.passes c.in_ok-end.ensures.passes
