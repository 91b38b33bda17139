use Rattle.std.proofs.Common.{◌≡◌, ℕ, List, ◌++◌, ◌+◌, ◌*◌, ◌≤◌, refl, ap, sym, ◌∙◌, arith, append_assoc, length-append}
use Rattle.std.proofs.lemmas.List.Elements.{All-append}
use Rattle.std.proofs.lemmas.List.{map_push}
use Rattle.std.proofs.lemmas.Result.{err_from_is_err_and}
use Rattle.manoeuvre.specs.declared.limits.TheConstants.{MAX_MANOEUVRE}
use Rattle.instance_text.specs.Shape.{row_fields}
use Rattle.instance_text.proofs.Repeats.{replicate_first, run_refused}
use Rattle.instance_text.proofs.TableRows.{rows_of_more}
use Rattle.instance_text.proofs.runs.rows.Goals as goal

pub returns-in_err-row-clause-refused : goal.returns-in_err-row-clause-refused
returns-in_err-row-clause-refused c =
    let p = err_from_is_err_and c.from_residual.result c.from_residual.ensures.1 in
    rw (p.1, p.2) (run_refused c.in_err-row.field-0.0 c.args.size c.loop.counter (row_fields c.args.size) c.args.reader.now c.loop.reader c.loop-test.true c.loop.invariant.passes c.in_err-row.ensures.refused)

pub loop-preserved : goal.loop-preserved
loop-preserved c =
    let items : c.extend_from_slice.new.self.items ≡ c.loop.entries.items ++ c.in_ok-row.row.items = c.in_ok-extend_from_slice.ensures.items ∙ ap (λ (row : List ℕ). c.loop.entries.items ++ row) c.deref.ensures.value in
    let more = rows_of_more c.loop.counter c.args.size c.loop.entries.items c.in_ok-row.row.items c.loop.invariant.length c.in_ok-row.ensures.length in
    let product : (c.loop.counter + 1) * c.args.size ≡ c.loop.counter * c.args.size + c.args.size = grind arith in
    record {
      passes = λ more. rw (c.loop.invariant.passes more, replicate_first _ _ _ c.loop-test.true) (rw c.in_ok-row.ensures.passes refl);
      words = rw (c.loop.invariant.words, c.in_ok-row.ensures.words, items, more, map_push) (simp append_assoc);
      length = rw (items, length-append, c.loop.invariant.length, c.in_ok-row.ensures.length) (sym product);
      limits = rw items (All-append (λ entry. entry ≤ MAX_MANOEUVRE) _ _ c.loop.invariant.limits c.in_ok-row.ensures.limits);
    }
