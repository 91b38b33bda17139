use Rattle.sequencer.proofs.Ready.{found_at}
use Rattle.sequencer.proofs.solution.solution_alone.Goals as goal

pub returns : goal.returns
returns c =
    let t = c.args.task.now in
    let outcome = c.in_ok-outcome.outcome in
    c.solution_of.ensures 0 t.budget t.cut t.instance c.requires.rules c.requires.range (found_at 0 t outcome c.requires c.in_ok-outcome.ensures)
