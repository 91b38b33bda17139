use Rattle.std.proofs.Common.{true, refl}
use Rattle.std.proofs.iter.runs.Made.{run, to_end}
use Rattle.seq_io.proofs.Lines.{Grew-append}
use Rattle.seq_io.proofs.line.append_numbers.Goals as goal

pub returns-in_err-put_ended_number-clause-grew : goal.returns-in_err-put_ended_number-clause-grew
returns-in_err-put_ended_number-clause-grew g c = Grew-append _ _ _ _ c.loop-number.invariant c.put_ended_number.ensures.grew

-- the numbers so far are all that came
pub returns-clause-ok : goal.returns-clause-ok
returns-clause-ok g c =
    let start = c.into_iter-number-iterator.result in
    let xs = c.loop-number.yielded in (
      run g.I.Iterator.next_gives start xs true (to_end g.I.Iterator.next_gives start xs (_, (_, c.loop-number.yielded_by, c.in-None.ensures.steps))),
      c.into_iter-number-iterator.ensures.into_iter_gives,
      refl,
      c.loop-number.invariant,
    )
