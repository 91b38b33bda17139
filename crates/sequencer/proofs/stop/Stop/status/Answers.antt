use Rattle.sequencer.proofs.Opened.{runs_memory, runs_read_fault}
use Rattle.sequencer.proofs.stop.Stop.status.Goals as goal

pub returns-in-ReadFault-clause-runs : goal.returns-in-ReadFault-clause-runs
returns-in-ReadFault-clause-runs c = λ counted words left taken stopped. runs_read_fault counted words left taken stopped

pub returns-in-Memory-clause-runs : goal.returns-in-Memory-clause-runs
returns-in-Memory-clause-runs c = λ counted words left taken stopped. runs_memory counted words left taken stopped
