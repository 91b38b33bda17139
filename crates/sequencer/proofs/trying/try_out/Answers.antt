use Rattle.std.proofs.Common.{◌≡◌}
use Rattle.std.proofs.lemmas.Result.{IfOk-weaker}
use Rattle.sequencer.proofs.TriedOut.{tried_out_by}
use Rattle.sequencer.specs.Texts.{proved_text}
use Rattle.sequencer.specs.Trying.{Tries}
use Rattle.sequencer.specs.declared.answer.Answer.{Answer}
use Rattle.sequencer.specs.declared.status.Status.TheVariants.{Done}
use Rattle.strip_model.specs.Plan.{gain_of}
use Rattle.sequencer.proofs.trying.try_out.Goals as goal

pub returns-in-Optimal : goal.returns-in-Optimal
returns-in-Optimal c =
    let t = c.in_ok-task.task in
    let log = c.in-Optimal.log in
    let proved = rw c.in-Optimal.is at c.in_ok-log.ensures in
    IfOk-weaker c.answer_checked.result
    (λ (answer : Answer). (answer.text.items ≡ proved_text c.args.seed c.args.size (gain_of t.instance log.plan.items)) × (answer.status ≡ Done))
    (λ (answer : Answer). Tries c.args.seed c.args.size c.args.budget c.args.cut answer.text.items answer.status)
    (λ answer told. tried_out_by c.args.seed c.args.size c.args.budget c.args.cut c.in_ok-instance.instance t c.in_ok-instance.ensures.made c.in_ok-task.ensures log
    answer.text.items answer.status proved told.0 told.1)
    c.answer_checked.ensures
