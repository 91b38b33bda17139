use Rattle.board.proofs.Halves.{first_is, first_same}
use Rattle.board.proofs.half.Half.new.Goals as goal

pub invariant_of-token : goal.invariant_of-token
invariant_of-token c =
    let queue = c.in_ok-queue in
    first_is c.args.side.now c.in_ok-locks.locks.items c.in_ok-locks.passes.items queue.ids c.in_ok-locks.ensures.passes queue.ensures.3 c.in_ok-locks.ensures.count queue.ensures.1.1

pub returns-clause-pass : goal.returns-clause-pass
returns-clause-pass c =
    let queue = c.in_ok-queue in
    first_same c.args.side.now c.in_ok-locks.locks.items c.in_ok-locks.passes.items queue.ids c.in_ok-locks.ensures.passes queue.ensures.3 queue.queue.table.shared.table_id queue.ensures.1.0
