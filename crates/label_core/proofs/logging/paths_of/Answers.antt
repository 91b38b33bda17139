use Rattle.std.proofs.Common.{ℕ, ◌≡◌, take, ◌∙◌, ap, arith}
use Rattle.bucket.specs.declared.limits.TheConstants.{BUCKETS}
use Rattle.label_core.proofs.LogParts.{buckets_more, buckets_size, buckets_all}
use Rattle.label_core.specs.CoreState.{buckets_of}
use Rattle.label_core.specs.LogOf.{items_of, all_paths}
use Rattle.label_core.proofs.logging.paths_of.Goals as goal

pub loop-bucket-preserved : goal.loop-bucket-preserved
loop-bucket-preserved c =
    buckets_more c.args.core.now.state c.args.end c.loop-bucket.bucket (items_of c.loop-bucket.paths.items) (items_of c.add_paths.new.paths.items)
    (omega (arith, c.loop-bucket-test.true, buckets_size c.args.core.now c.labels.ensures.reached c.args.end)) c.loop-bucket.invariant
    c.in_ok-add_paths.ensures

pub returns : goal.returns
returns c =
    let at_end : c.loop-bucket.bucket ≡ BUCKETS = omega (arith, c.loop-bucket-test.false, c.loop-bucket.auto.bucket-end) in
    buckets_all c.args.core.now c.labels.ensures.reached c.args.end (items_of c.loop-bucket.paths.items)
    (c.loop-bucket.invariant ∙ ap (λ (b : ℕ). all_paths (take b (buckets_of c.args.core.now.state c.args.end))) at_end)
