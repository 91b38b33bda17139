use Rattle.std.proofs.Common.{ℕ, ◌+◌, ◌≡◌, ◌∙◌, length, take, ap, arith}
use Rattle.label_core.proofs.LogParts.{bucket_small, buckets_size, number_more, number_small}
use Rattle.label_core.specs.CoreState.{buckets_of}
use Rattle.label_core.specs.LogOf.{all_paths, number}
use Rattle.label_core.proofs.logging.number_of.Goals as goal

pub count-number-requires : goal.count-number-requires
count-number-requires c =
    omega (arith, c.loop-bucket-test.true, bucket_small c.args.core.now c.labels.ensures.reached c.args.id c.requires)

pub overflow_add-number : goal.overflow_add-number
overflow_add-number c =
    omega (
      arith,
      c.count-number.ensures,
      c.labels.ensures.value,
      c.labels.ensures.bound,
      number_small c.args.core.now.state c.args.id c.loop-bucket.bucket c.loop-bucket.number c.requires c.loop-bucket-test.true c.loop-bucket.invariant,
    )

pub loop-bucket-preserved : goal.loop-bucket-preserved
loop-bucket-preserved c =
    ap (λ (k : ℕ). c.loop-bucket.number + k) c.count-number.ensures
    ∙ number_more c.args.core.now.state c.args.id.end c.loop-bucket.bucket c.args.id.index c.loop-bucket.number
    (omega (
      arith,
      c.loop-bucket-test.true,
      bucket_small c.args.core.now c.labels.ensures.reached c.args.id c.requires,
      buckets_size c.args.core.now c.labels.ensures.reached c.args.id.end,
    )) c.loop-bucket.invariant

pub returns : goal.returns
unfolding number
returns c =
    let at_end : c.loop-bucket.bucket ≡ c.args.id.bucket = omega (arith, c.loop-bucket-test.false, c.loop-bucket.auto.bucket-end) in
    c.loop-bucket.invariant
    ∙ ap (λ (b : ℕ). length (all_paths (take b (buckets_of c.args.core.now.state c.args.id.end))) + c.args.id.index) at_end
