use Rattle.std.proofs.Common.{refl, []}
use Rattle.command_line.specs.Plain.{texts, IsPlainJob}
use Rattle.command_line.specs.declared.job.Job.{Job}
use Rattle.sequencer.proofs.Idle.{none_consumed}
use Rattle.sequencer.proofs.running.begin_call.Goals as goal

pub returns-in-Err-Usage-clause-begins : goal.returns-in-Err-Usage-clause-begins
returns-in-Err-Usage-clause-begins g c =
    ([], none_consumed (g.S.Source.left c.args.source.now), record { no_job = c.in-Err-Usage.ensures.usage cc; untouched = refl; nothing = refl })

pub returns-in-Err-Memory-clause-begins : goal.returns-in-Err-Memory-clause-begins
returns-in-Err-Memory-clause-begins g c =
    let not_plain : (job : Job) → IsPlainJob (texts c.args.words.now) job → ⊥ =
    λ job is. let plain = c.in-Err-Memory.ensures.plain job is in cc in
    ([], none_consumed (g.S.Source.left c.args.source.now), record { not_plain = not_plain; untouched = refl; nothing = refl })

pub returns-in-Ok-clause-begins : goal.returns-in-Ok-clause-begins
returns-in-Ok-clause-begins g c = c.begin_job.ensures.begins (texts c.args.words.now) c.in-Ok.ensures.ok
