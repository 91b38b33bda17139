use Rattle.std.proofs.Common.{arith}
use Rattle.std.proofs.lemmas.Bool.{ltb-true, lt-ltb}
use Rattle.bucket.specs.declared.limits.TheConstants.{BUCKETS}
use Rattle.label_core.proofs.Cores.{there_on, there_from, bucket_below}
use Rattle.label_core.proofs.machine.Core.is_there.Goals as goal

pub returns-then-from-lt-BUCKETS : goal.returns-then-from-lt-BUCKETS
returns-then-from-lt-BUCKETS c = (
  λ t.
      there_from c.self.inside.instance.now c.self.inside.sides c.self.inside.notes.items c.self.inside.plan.items c.args.self.now c.self.view_is c.args.id (omega (arith, ltb-true c.args.id.index c.count.result t, c.count.ensures)),
  λ there.
      lt-ltb c.args.id.index c.count.result
      (omega (
        arith,
        c.count.ensures,
        there_on c.self.inside.instance.now c.self.inside.sides c.self.inside.notes.items c.self.inside.plan.items c.args.self.now c.self.view_is c.args.id there,
      )),
)

pub returns-else-from-lt-BUCKETS : goal.returns-else-from-lt-BUCKETS
returns-else-from-lt-BUCKETS c = (
  λ t. absurd (omega (arith, ltb-true c.from.result BUCKETS t, c.if-from-lt-BUCKETS.false)),
  λ there.
      absurd (omega (
        arith,
        c.if-from-lt-BUCKETS.false,
        c.from.ensures,
        bucket_below c.self.inside.instance.now c.self.inside.sides c.self.inside.notes.items c.self.inside.plan.items c.args.self.now c.self.view_is c.self.inside.gain
            c.self.inside.labels c.self.invariant c.args.id there,
      )),
)
