use Rattle.std.proofs.Common.{get_or, refl}
use Rattle.bucket.proofs.Retirements.{AreRetirable-next, grown-next}
use Rattle.bucket.proofs.inserting.retire_all.Goals as goal

pub loop-id-preserved : goal.loop-id-preserved
loop-id-preserved c = (
  grown-next c.args.store.now c.loop-id.store c.retire.new.self c.args.by c.args.ids.now c.loop-id.id-index
      (get_or c.args.ids.now c.loop-id.id-index 0) c.loop-id-test.true refl c.loop-id.invariant.0 c.retire.ensures,
  AreRetirable-next c.loop-id.store c.retire.new.self c.args.by c.args.ids.now c.loop-id.id-index (get_or c.args.ids.now c.loop-id.id-index 0)
      c.loop-id-test.true refl c.retire.ensures c.loop-id.invariant.1,
)
