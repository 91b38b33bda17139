use Rattle.std.proofs.Common.{inr}
use Rattle.sequencer.proofs.Opened.{lack_as}
use Rattle.sequencer.specs.declared.stop.Unanswered.TheVariants.{Usage, Unread, Stopped}
use Rattle.sequencer.proofs.stop.Unanswered.status.Goals as goal

pub returns-in-Usage-clause-runs : goal.returns-in-Usage-clause-runs
returns-in-Usage-clause-runs c = λ counted words left taken h. lack_as words taken c.args.self Usage c.in-Usage.is h

pub returns-in-Unread-clause-runs : goal.returns-in-Unread-clause-runs
returns-in-Unread-clause-runs c = λ counted words left taken h. inr (lack_as words taken c.args.self Unread c.in-Unread.is h)

pub returns-in-Stopped-clause-runs : goal.returns-in-Stopped-clause-runs
returns-in-Stopped-clause-runs c = λ counted words left taken h.
    c.status.ensures.runs counted words left taken (lack_as words taken c.args.self (Stopped c.in-Stopped.stop) c.in-Stopped.is h)
