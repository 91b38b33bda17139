use Rattle.label_core.proofs.Cores.{IsCore-new}
use Rattle.label_core.proofs.machine.Core.new.Goals as goal

pub invariant_of-result : goal.invariant_of-result
invariant_of-result c =
    IsCore-new c.args.instance.now c.args.forward.now c.args.backward.now c.in_ok-new.field-0 c.in_ok-new-2.field-0 c.new-3.result.items
    c.new-4.result.items c.requires.forward c.requires.backward c.in_ok-new.ensures c.in_ok-new-2.ensures c.new-3.ensures.items c.new-4.ensures.items
