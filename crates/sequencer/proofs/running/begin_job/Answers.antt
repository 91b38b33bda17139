use Rattle.sequencer.proofs.Opened.{begins_job}
use Rattle.sequencer.proofs.running.begin_job.Goals as goal

pub returns-in-Ok-clause-begins : goal.returns-in-Ok-clause-begins
returns-in-Ok-clause-begins g c = λ words asked.
    let o = c.in-Ok.ensures.opens in
    (o.0, o.1, begins_job words (g.S.Source.left c.begin.new.source) o.0 c.args.job asked c.in-Ok.opening o.2)

pub returns-in-Err-clause-begins : goal.returns-in-Err-clause-begins
returns-in-Err-clause-begins g c = λ words asked.
    let o = c.in-Err.ensures.opens in
    (o.0, o.1, record { job = c.args.job; asked = asked; taken_at_most = o.2 })
