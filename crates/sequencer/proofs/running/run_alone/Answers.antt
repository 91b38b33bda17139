use Rattle.command_line.specs.Plain.{texts}
use Rattle.sequencer.proofs.Answered.{cause_alike}
use Rattle.sequencer.proofs.running.run_alone.Goals as goal

pub returns-clause-run : goal.returns-clause-run
returns-clause-run g c =
    let comes = c.answer_alone.ensures.comes in
    let done = c.deliver.ensures.runs (λ workers. 0) (texts c.args.words.now) (g.S.Source.left c.answer_alone.new.source) comes.0 comes.2 in
    (comes.0, done.0, comes.1, done.1, done.2)

pub returns-clause-read_fault : goal.returns-clause-read_fault
returns-clause-read_fault g c =
    let comes = c.answer_alone.ensures.comes in
    cause_alike (g.S.Source.faults c.args.source.now) (g.S.Source.faults c.answer_alone.new.source) c.answer_alone.ensures.cause
    (c.deliver.ensures.read_fault (λ workers. 0) (texts c.args.words.now) (g.S.Source.left c.answer_alone.new.source) comes.0 comes.2)

pub returns-clause-write_fault : goal.returns-clause-write_fault
returns-clause-write_fault g c =
    let comes = c.answer_alone.ensures.comes in
    c.deliver.ensures.write_fault (λ workers. 0) (texts c.args.words.now) (g.S.Source.left c.answer_alone.new.source) comes.0 comes.2
