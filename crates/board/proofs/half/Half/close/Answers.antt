use Rattle.std.proofs.Common.{◌∙◌, subst}
use Rattle.board.proofs.Closes.{buckets-of}
use Rattle.bucket.specs.Traces.{AreBucketsOf}
use Rattle.crossbeam_queue.specs.Passes.{view}
use Rattle.strip_model.specs.Side.{Face}
use Rattle.board.proofs.half.Half.close.Goals as goal

pub returns-clause-buckets : goal.returns-clause-buckets
returns-clause-buckets c =
    let token = c.token.inside in
    subst (λ (S : Face). AreBucketsOf S c.close_locks.result.items) ((λ i. (c.token.view_is i).name.side) ∙ (λ i. (c.requires.name i).side))
    (buckets-of token.side.now (view token.ids).weight token.locks.items c.close_locks.result.items c.token.invariant.count c.token.invariant.idle c.close_locks.ensures)
