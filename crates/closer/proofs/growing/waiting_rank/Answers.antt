use Rattle.std.proofs.Common.{arith}
use Rattle.closer.proofs.FirstWaits.{last_start-le}
use Rattle.closer.proofs.growing.waiting_rank.Goals as goal

pub overflow_add-result : goal.overflow_add-result
overflow_add-result c =
    omega (arith, c.start_of_last.ensures, last_start-le c.args.side.now c.args.label.now.path.items c.args.label.now.start c.args.label.now.last c.end.ensures.sound c.requires.path c.requires.at)
