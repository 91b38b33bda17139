use Rattle.std.proofs.Common.{List, subst}
use Rattle.std.specs.BinaryHeap.{heap_items}
use Rattle.closer.proofs.Queues.{Joins-pushed}
use Rattle.closer.specs.Waiting.{waits_of, Joins}
use Rattle.closer.specs.declared.wait.Wait.{Wait}
use Rattle.closer.proofs.queue.Queue.push.Goals as goal

pub returns : goal.returns
returns c =
    subst (λ (old : List Wait). Joins c.args.wait old (waits_of (heap_items c.push.new.self))) c.self.view_is
    (Joins-pushed c.args.wait (heap_items c.self.inside.heap) (heap_items c.push.new.self) c.in_ok-push.ensures.permutation)
