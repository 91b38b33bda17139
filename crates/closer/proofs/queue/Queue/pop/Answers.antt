use Rattle.std.proofs.Common.{List, subst}
use Rattle.std.specs.BinaryHeap.{heap_items}
use Rattle.closer.proofs.Queues.{Leaves-popped}
use Rattle.closer.specs.Waiting.{waits_of, Leaves}
use Rattle.closer.specs.declared.wait.Wait.{Wait}
use Rattle.closer.proofs.queue.Queue.pop.Goals as goal

pub returns : goal.returns
returns c =
    subst (λ (old : List Wait). Leaves c.in-Some.field-0.0 old (waits_of (heap_items c.pop.new.self))) c.self.view_is
    (Leaves-popped c.in-Some.field-0 (heap_items c.self.inside.heap) (heap_items c.pop.new.self) c.in-Some.ensures.permutation
    (c.in-Some.ensures.below_top c.self.invariant))
