use Rattle.std.proofs.Common.{◌<◌, ◌^◌, sym, arith}
use Rattle.seq_io.proofs.StrictText.{number_stands}
use Rattle.seq_io.proofs.front.front_number.Goals as goal

pub returns-clause-fault : goal.returns-clause-fault
returns-clause-fault c =
    let small : c.in-Some.number < 2 ^ 64 = omega arith in
    rw c.in-Some.ensures.number (sym (number_stands c.in-Some.number c.args.limit c.if-number-limit.true small))
