use Rattle.std.proofs.Common.{◌≡◌, ℕ, subst, arith}
use Rattle.bucket.specs.declared.limits.TheConstants.{BUCKETS}
use Rattle.closer.proofs.Joined.{HasLiveBefore, HasLiveBefore-more, HasAllLive-before}
use Rattle.closer.proofs.joining.live_labels.Goals as goal

pub loop-number-preserved : goal.loop-number-preserved
loop-number-preserved c =
    HasLiveBefore-more c.args.core.now c.args.end c.loop-number.number c.loop-number.labels.items c.push_live.new.labels.items c.labels.ensures.reached
    (omega (arith, c.loop-number-test.true, c.loop-number.auto.number-end)) c.loop-number.invariant c.in_ok-push_live.ensures

pub returns-clause-all : goal.returns-clause-all
returns-clause-all c =
    let at_end : c.loop-number.number ≡ BUCKETS = omega (arith, c.loop-number-test.false, c.loop-number.auto.number-end) in
    HasAllLive-before c.args.core.now c.args.end c.loop-number.labels.items c.labels.ensures.reached
    (subst (λ (b : ℕ). HasLiveBefore c.args.core.now c.args.end b c.loop-number.labels.items) at_end c.loop-number.invariant)
