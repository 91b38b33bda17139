use Rattle.std.proofs.Common.{rules}
use Rattle.command_line.specs.Plain.{texts}
use Rattle.sequencer.proofs.Opened.{answered_in, cause_begun, search_in}
use Rattle.sequencer.proofs.running.answer_as_asked.Goals as goal

pub returns-in-Err-clause-comes : goal.returns-in-Err-clause-comes
returns-in-Err-clause-comes g c = c.in-Err.ensures.begins

pub returns-in-Ok-Answered-clause-comes : goal.returns-in-Ok-Answered-clause-comes
returns-in-Ok-Answered-clause-comes g c =
    let a = c.in-Ok-Answered in
    let b = a.ensures.begins in
    (b.0, b.1, answered_in (texts c.args.words.now) (g.S.Source.left c.begin_call.new.source) b.0 a.field-0 a.answer a.field-0-is b.2 (λ workers. workers))

pub solve-requires : goal.solve-requires
solve-requires g c =
    let s = c.in-Ok-Search in
    let b = s.ensures.begins in
    let call = search_in (texts c.args.words.now) (g.S.Source.left c.begin_call.new.source) b.0 s.field-0 s.task s.field-0-is b.2 in
    let ready = call.search.ready in
    search (rules, ready)

pub returns-in-Ok-Search-clause-comes : goal.returns-in-Ok-Search-clause-comes
returns-in-Ok-Search-clause-comes g c =
    let s = c.in-Ok-Search in
    let b = s.ensures.begins in
    let words = texts c.args.words.now in
    let left = g.S.Source.left c.begin_call.new.source in
    let call = search_in words left b.0 s.field-0 s.task s.field-0-is b.2 in
    (b.0, b.1, c.or_stopped.ensures.comes (λ workers. workers) words left b.0 s.task call (c.solve.ensures b.0 call.search.read))

pub returns-in-Ok-Search-clause-cause : goal.returns-in-Ok-Search-clause-cause
returns-in-Ok-Search-clause-cause g c =
    cause_begun (g.S.Source.faults c.args.source.now) (g.S.Source.faults c.begin_call.new.source) c.in-Ok-Search.field-0 c.or_stopped.result
    c.in-Ok-Search.ensures.cause c.or_stopped.ensures.read
