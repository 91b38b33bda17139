use Rattle.std.proofs.Common.{false}
use Rattle.closer.proofs.Looks.{AreLeft-more}
use Rattle.closer.proofs.looking.left_of.Goals as goal

pub loop-look-preserved : goal.loop-look-preserved
loop-look-preserved c =
    AreLeft-more c.args.looks.now c.loop-look.look-index (record { wait = record { rank = 0; shelf = 0; index = 0 }; may_lack = false })
    c.loop-look.queue c.wait_on.new.queue c.loop-look-test.true c.in_ok-wait_on.ensures c.loop-look.invariant
