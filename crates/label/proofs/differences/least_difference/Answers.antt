use Rattle.std.proofs.Common.{List, length, ap, arith}
use Rattle.label.proofs.SetDifferences.{IsSummed-step}
use Rattle.label.specs.Gaining.{set_area, set_difference}
use Rattle.strip_model.specs.declared.request.Request.{Request}
use Rattle.label.proofs.differences.least_difference.Goals as goal

pub loop-request-preserved : goal.loop-request-preserved
loop-request-preserved c =
    let J = c.args.side.now.instance in
    let d = c.difference_of_request-sum.ensures in
    let requests = c.requests-request-end.ensures in
    IsSummed-step (set_difference J c.args.b c.args.a (set_area J c.args.room)) c.loop-request.request _ c.difference_of_request-sum.result
    (omega (arith, c.loop-request-test.true, ap (λ (rs : List Request). length rs) requests.value, requests.sound.limits.few_requests))
    c.loop-request.invariant d.value d.at_least d.at_most
