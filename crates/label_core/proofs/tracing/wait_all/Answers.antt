use Rattle.std.proofs.Common.{arith}
use Rattle.label_core.proofs.Settling.{wait_next}
use Rattle.label_core.proofs.tracing.wait_all.Goals as goal

pub loop-id-preserved : goal.loop-id-preserved
loop-id-preserved c =
    wait_next c.args.list.now c.loop-id.list c.set_state.new.self c.loop-id.id (omega (arith, c.loop-id-test.true, c.len-id-end.ensures.value))
    c.loop-id.invariant c.set_state.ensures
