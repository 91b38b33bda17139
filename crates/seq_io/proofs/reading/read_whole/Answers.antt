use Rattle.std.proofs.Common.{◌++◌, ℕ, take, length-append, length-take, arith}
use Rattle.std.proofs.lemmas.Result.{err_from_is_err_and}
use Rattle.seq_io.proofs.Pieces.{Consumes-append}
use Rattle.seq_io.proofs.reading.read_whole.Goals as goal

-- the last piece was taken too, and with it the byte above the limit
pub returns-then-len-n-clause-whole : goal.returns-then-len-n-clause-whole
returns-then-len-n-clause-whole g c =
    let piece = take c.in-Ok.n c.read.new.buf in
    (c.loop-n.bytes.items ++ piece, Consumes-append _ _ _ _ _ c.loop-n.invariant.taken c.in-Ok.ensures.taken, omega (arith, length-append {A = ℕ}, length-take {A = ℕ}, c.in-Ok.ensures.bound, c.read.auto.buf))

-- the last piece was taken too, though no memory was found for it
pub returns-in_err-extend_from_slice-clause-whole : goal.returns-in_err-extend_from_slice-clause-whole
returns-in_err-extend_from_slice-clause-whole g c =
    let piece = take c.in-Ok.n c.read.new.buf in
    let p = err_from_is_err_and c.from_residual.result c.from_residual.ensures.1 in
    (c.loop-n.bytes.items ++ piece, Consumes-append _ _ _ _ _ c.loop-n.invariant.taken c.in-Ok.ensures.taken, rw (p.1, p.2) (omega (arith, length-append {A = ℕ}, length-take {A = ℕ}, c.in-Ok.ensures.bound)))
