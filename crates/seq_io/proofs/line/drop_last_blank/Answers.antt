use Rattle.std.proofs.Common.{◌≡◌, length, arith}
use Rattle.seq_io.proofs.Lines.{cut_last, cut_none, Grew-cut}
use Rattle.seq_io.proofs.line.drop_last_blank.Goals as goal

pub returns-then-len-start-clause-joined : goal.returns-then-len-start-clause-joined
returns-then-len-start-clause-joined c = λ text tokens start e.
    let items = c.args.out.now.items in
    let count : c.len.result ≡ length items = omega arith in
    rw (c.pop.ensures.rest, ← c.len.ensures, count) (cut_last text items tokens e (omega arith))

pub returns-then-len-start-clause-grew : goal.returns-then-len-start-clause-grew
returns-then-len-start-clause-grew c = λ text start grew.
    let items = c.args.out.now.items in
    let count : c.len.result ≡ length items = omega arith in
    rw (c.pop.ensures.rest, ← c.len.ensures, count) (Grew-cut text items grew (omega arith))

pub returns-else-len-start-clause-joined : goal.returns-else-len-start-clause-joined
returns-else-len-start-clause-joined c = λ text tokens start e.
    cut_none text c.args.out.now.items tokens e (omega arith)
