use Rattle.sequencer.proofs.Ready.{search_on}
use Rattle.sequencer.proofs.solving.open.Goals as goal

pub returns-in_ok-task-in-Ok : goal.returns-in_ok-task-in-Ok
returns-in_ok-task-in-Ok c =
    search_on c.in-Ok.instance c.args.workers c.args.budget c.args.cut c.args.input.now c.in_ok-task-in-Ok.task c.in-Ok.ensures.text
    c.in_ok-task-in-Ok.ensures
