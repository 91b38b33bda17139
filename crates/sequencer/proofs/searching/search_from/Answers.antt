use Rattle.std.proofs.lemmas.Result.{IfOk-weaker}
use Rattle.closer.specs.Finishing.{Finishes}
use Rattle.closer.specs.declared.outcome.Outcome.{Outcome}
use Rattle.sequencer.specs.Finding.{IsFoundAlone}
use Rattle.sequencer.proofs.searching.search_from.Goals as goal

pub returns : goal.returns
returns c =
    let core = c.in_ok-core.core in
    let begun = c.in_ok-core.ensures in
    IfOk-weaker c.finish.result (λ (outcome : Outcome). Finishes c.args.budget core outcome)
    (λ (outcome : Outcome). IsFoundAlone c.args.budget c.args.instance.now c.args.forward.now.cut outcome)
    (λ outcome finishes. record { start = core; begun = begun; finishes = finishes }) c.finish.ensures
