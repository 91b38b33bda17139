use Rattle.sequencer.proofs.Opened.{comes_search, comes_stopped}
use Rattle.sequencer.specs.declared.stop.Stop.TheVariants.{Memory}
use Rattle.sequencer.proofs.running.or_stopped.Goals as goal

pub returns-in-Ok-clause-comes : goal.returns-in-Ok-clause-comes
returns-in-Ok-clause-comes c = λ counted words left taken t call h.
    comes_search counted words left taken t call c.in-Ok.answer (rw c.in-Ok.is at h)

pub returns-in-Err-clause-comes : goal.returns-in-Err-clause-comes
returns-in-Err-clause-comes c = λ counted words left taken t call h. comes_stopped counted words left taken t call Memory
