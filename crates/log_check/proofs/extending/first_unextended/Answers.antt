use Rattle.std.proofs.Common.{length, ap, ◌∙◌, arith}
use Rattle.log_check.proofs.SeatPlaces.{seats_extended, open_forward, open_backward, forward_count}
use Rattle.log_check.specs.Reading.{Read}
use Rattle.proof_log.specs.Labels.{paths_in}
use Rattle.strip_model.specs.declared.end.End.TheVariants.{Forward}
use Rattle.log_check.proofs.extending.first_unextended.Goals as goal

pub returns-in-Some : goal.returns-in-Some
returns-in-Some c = open_forward c.args.seated.now.instance c.args.seated.now.log c.in-Some.seat (rw c.in-Some.is at c.in_ok-seat.ensures)

pub returns-in-Some-2 : goal.returns-in-Some-2
returns-in-Some-2 c =
    let log = c.args.seated.now.log in
    let count = c.paths.ensures.count ∙ ap (λ (r : Read). length (paths_in r.log Forward)) (c.reading.ensures ∙ c.listed.ensures) ∙ forward_count log in
    open_backward c.args.seated.now.instance log c.in-Some-2.seat _ (omega (arith, count)) (rw c.in-None.is at c.in_ok-seat.ensures)
    (rw c.in-Some-2.is at c.in_ok-seat-in-None.ensures)

pub returns-in-None-2 : goal.returns-in-None-2
returns-in-None-2 c =
    seats_extended c.args.seated.now.instance c.args.seated.now.log (rw c.in-None.is at c.in_ok-seat.ensures) (rw c.in-None-2.is at c.in_ok-seat-in-None.ensures)
