-- What was answered is what a call does.
use Rattle.std.proofs.Common.{ℕ, List, Option, inl, ◌↔◌}
use Rattle.command_line.specs.Job.{IsJob}
use Rattle.seq_io.specs.Count.{HasCause}
use Rattle.sequencer.specs.Run.{Does, Runs}
use Rattle.command_line.specs.declared.job.Job.{Job}
use Rattle.sequencer.specs.declared.status.Status.{Status}
use Rattle.sequencer.specs.declared.status.Status.TheVariants.{Done, Best, Usage, Refused, Rejected, ReadFault, WriteFault, Memory}

-- the job that the words ask for was done in this way
pub runs_done : (way : Job → Job) (words : List (List ℕ)) (left : Option (List ℕ)) (taken written : List ℕ) (status : Status) (job : Job)
    → IsJob words job → Does (way job) left taken written status → Runs way words left taken written status
runs_done way words left taken written Done job asked h = record { job = job; asked = asked; does = h }
runs_done way words left taken written Best job asked h = record { job = job; asked = asked; does = h }
runs_done way words left taken written Usage job asked h = absurd h
runs_done way words left taken written Refused job asked h = record { job = job; asked = asked; does = h }
runs_done way words left taken written Rejected job asked h = record { job = job; asked = asked; does = h }
runs_done way words left taken written ReadFault job asked h = record { job = job; asked = asked; does = h }
runs_done way words left taken written WriteFault job asked h = record { job = job; asked = asked; does = h }
runs_done way words left taken written Memory job asked h = inl (record { job = job; asked = asked; does = h })

-- a cause of what is told elsewhere by the same fault
pub cause_alike : (before after : ℕ) {P Q : Type 0} → HasCause before after P → (Q ↔ P) → HasCause before after Q
cause_alike before after cause same = record {
  never_falls = cause.never_falls;
  rose = λ q. cause.rose (same.0 q);
  kept = λ none. cause.kept (λ p. none (same.1 p));
}
