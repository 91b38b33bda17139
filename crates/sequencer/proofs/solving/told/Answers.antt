use Rattle.std.proofs.lemmas.Result.{IfOk-weaker}
use Rattle.sequencer.proofs.Ready.{found_at}
use Rattle.sequencer.proofs.Solved.{fits_text, solves}
use Rattle.sequencer.specs.Searching.{IsSolution, Tells}
use Rattle.sequencer.specs.Solving.{Solves}
use Rattle.sequencer.specs.declared.answer.Answer.{Answer}
use Rattle.sequencer.proofs.solving.told.Goals as goal

pub answer_of-requires : goal.answer_of-requires
answer_of-requires c =
    let t = c.args.task.now in
    let ready = c.requires.ready in
    let found = found_at c.requires.found.0 t c.args.outcome ready c.requires.found.1 in
    let is = c.in_ok-solution.ensures c.requires.found.0 t.budget t.cut t.instance ready.rules ready.range found in
    fits_text c.requires.found.0 t.budget t.cut t.instance c.in_ok-solution.solution is

pub returns : goal.returns
returns c = λ workers input found read.
    let t = c.args.task.now in
    let ready = c.requires.ready in
    let solution = c.in_ok-solution.solution in
    let is : IsSolution workers t.budget t.cut t.instance solution =
    c.in_ok-solution.ensures workers t.budget t.cut t.instance ready.rules ready.range (found_at workers t c.args.outcome ready found) in
    IfOk-weaker c.answer_of.result (λ (answer : Answer). Tells solution answer.text.items answer.status)
    (λ (answer : Answer). Solves workers t.budget t.cut input answer.text.items answer.status)
    (λ answer told. solves workers t.budget t.cut t.instance solution input answer.text.items answer.status read is told) c.answer_of.ensures
