use Rattle.std.proofs.lemmas.Result.{IfOk-weaker}
use Rattle.closer.specs.declared.outcome.Outcome.{Outcome}
use Rattle.sequencer.proofs.Searched.{IsFound-alone}
use Rattle.sequencer.specs.Finding.{IsFound, IsFoundAlone}
use Rattle.sequencer.proofs.finding.find_alone.Goals as goal

pub returns : goal.returns
returns c =
    let t = c.args.task.now in
    IfOk-weaker c.search_from.result (λ (outcome : Outcome). IsFoundAlone t.budget t.instance t.forward.cut outcome)
    (λ (outcome : Outcome). IsFound 0 t.budget t.instance t.forward.cut outcome)
    (λ outcome alone. IsFound-alone 0 t.budget t.instance t.forward.cut outcome c.requires.range.few alone) c.search_from.ensures
