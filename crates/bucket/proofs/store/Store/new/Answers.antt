use Rattle.bucket.proofs.Stores.{Keeps-none}
use Rattle.bucket.proofs.store.Store.new.Goals as goal

pub invariant_of-result : goal.invariant_of-result
invariant_of-result c = Keeps-none c.args.side.now c.args.number c.new.result c.new-2.result.items _ c.new.ensures c.new-2.ensures.items
