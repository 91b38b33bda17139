use Rattle.std.proofs.Common.{refl, arith}
use Rattle.log_check.proofs.SeatPlaces.{listing_at, wrong_forward, wrong_backward, forward_count}
use Rattle.log_check.specs.Paths.{plain}
use Rattle.strip_model.specs.declared.end.End.TheVariants.{Forward, Backward}
use Rattle.log_check.proofs.indexing.index_labels.Goals as goal

pub returns-in-WrongAt : goal.returns-in-WrongAt
returns-in-WrongAt c =
    let I = c.args.reading.now.instance in
    let log = c.args.reading.now.log in
    let found = listing_at I log Forward c.side.result.now (plain c.paths-paths.result.now) c.in_ok-k.field-0 c.side.ensures c.paths-paths.ensures.value c.in_ok-k.ensures in
    let wrong = rw c.in-WrongAt.is at found in
    wrong_forward I log c.in-WrongAt.k _ refl wrong.0 wrong.1 wrong.2

pub returns-in-WrongAt-2 : goal.returns-in-WrongAt-2
returns-in-WrongAt-2 c =
    let I = c.args.reading.now.instance in
    let log = c.args.reading.now.log in
    let first = listing_at I log Forward c.side.result.now (plain c.paths-paths.result.now) c.in_ok-k.field-0 c.side.ensures c.paths-paths.ensures.value c.in_ok-k.ensures in
    let right = rw c.in-Right.is at first in
    let found = listing_at I log Backward c.side-in-Right.result.now (plain c.paths-paths-in-Right.result.now) c.in_ok-k-in-Right.field-0 c.side-in-Right.ensures
    c.paths-paths-in-Right.ensures.value c.in_ok-k-in-Right.ensures in
    let wrong = rw c.in-WrongAt-2.is at found in
    wrong_backward I log c.in-WrongAt-2.k _ (omega (arith, c.paths-paths.ensures.count, forward_count log)) wrong.0 wrong.1 right.0 wrong.2
