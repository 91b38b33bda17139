use Rattle.std.proofs.Common.{suc, slice_index, arith}
use Rattle.strip_model.proofs.Gains.{sum_below_shares-le}
use Rattle.strip_model.proofs.gain.gain_with.Goals as goal

pub overflow_add-gain : goal.overflow_add-gain
overflow_add-gain c =
    omega (
      arith,
      c.loop-request.invariant,
      c.share-gain.ensures.value,
      sum_below_shares-le c.args.instance.now (suc c.loop-request.request) (slice_index c.args.areas.now) c.requests-request-end.ensures.sound c.requires.within,
    )

pub returns-clause-bound : goal.returns-clause-bound
returns-clause-bound c =
    omega (
      arith,
      c.loop-request.invariant,
      sum_below_shares-le c.args.instance.now c.loop-request.request (slice_index c.args.areas.now) c.requests-request-end.ensures.sound c.requires.within,
    )
