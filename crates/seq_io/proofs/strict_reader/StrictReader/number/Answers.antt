use Rattle.std.proofs.Common.{sym, ◌∙◌}
use Rattle.std.proofs.lemmas.Result.{err_from_is_err_and}
use Rattle.seq_io.specs.StrictText.{ANumber}
use Rattle.seq_io.proofs.StrictText.{first_fault_is}
use Rattle.seq_io.proofs.strict_reader.StrictReader.number.Goals as goal

pub returns-in_err-number-clause-fault : goal.returns-in_err-number-clause-fault
returns-in_err-number-clause-fault c =
    let p = err_from_is_err_and c.from_residual.result c.from_residual.ensures.1 in
    let first = first_fault_is (ANumber c.args.limit) c.self.inside.more c.self.inside.rest.now c.if-not-self.false in
    rw (p.1, p.2, ← c.self.view_is) (c.in_err-number.ensures.fault ∙ sym first)
