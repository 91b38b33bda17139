use Rattle.std.proofs.Common.{[]}
use Rattle.sequencer.proofs.Answered.{runs_done}
use Rattle.sequencer.proofs.Idle.{none_appended}
use Rattle.sequencer.proofs.Opened.{answer_in, fault_without, lack_in, no_fault_within}
use Rattle.sequencer.specs.Run.{with_workers}
use Rattle.sequencer.proofs.running.deliver.Goals as goal

pub returns-in-Err-clause-runs : goal.returns-in-Err-clause-runs
returns-in-Err-clause-runs g c = λ counted words left taken h.
    let lacks = lack_in counted words left taken c.args.answer c.in-Err.why c.in-Err.is h in
    ([], none_appended (g.K.Sink.written c.args.sink.now), c.status.ensures.runs counted words left taken lacks)

pub returns-in-Err-clause-read_fault : goal.returns-in-Err-clause-read_fault
returns-in-Err-clause-read_fault g c = λ counted words left taken h.
    fault_without c.args.answer c.in-Err.why c.status.result c.in-Err.is c.status.ensures.read_fault

pub returns-in-Ok-clause-runs : goal.returns-in-Ok-clause-runs
returns-in-Ok-clause-runs g c = λ counted words left taken h.
    let a = answer_in counted words left taken c.args.answer c.in-Ok.answer c.in-Ok.is h in
    let done = c.put.ensures.does (with_workers counted a.job) left taken a.answers in
    (done.0, done.1, runs_done (with_workers counted) words left taken done.0 c.put.result a.job a.asked done.2)

pub returns-in-Ok-clause-read_fault : goal.returns-in-Ok-clause-read_fault
returns-in-Ok-clause-read_fault g c = λ counted words left taken h.
    let a = answer_in counted words left taken c.args.answer c.in-Ok.answer c.in-Ok.is h in
    no_fault_within c.args.answer c.in-Ok.answer c.put.result c.in-Ok.is (c.put.ensures.read_fault (with_workers counted a.job) left taken a.answers)

pub returns-in-Ok-clause-write_fault : goal.returns-in-Ok-clause-write_fault
returns-in-Ok-clause-write_fault g c = λ counted words left taken h.
    let a = answer_in counted words left taken c.args.answer c.in-Ok.answer c.in-Ok.is h in
    c.put.ensures.write_fault (with_workers counted a.job) left taken a.answers
