-- What a call of the program does, by its words, the bytes that it takes and the bytes that it writes.
use Rattle.std.specs.Prelude.{◌≡◌, ◌⊎◌, ℕ, ◌+◌, ◌<◌, ◌≤◌, List, [], ◌++◌, length, Option, Result, Ok, Err}
use Rattle.inst_maker.specs.Made.{made}
use Rattle.instance_text.specs.Spelling.{spelling}
use Rattle.seq_io.specs.Source.{IsAtEnd}
use Rattle.sequencer.specs.Checking.{Checks}
use Rattle.command_line.specs.Job.{IsJob}
use Rattle.command_line.specs.Plain.{IsPlainJob}
use Rattle.sequencer.specs.Scoring.{Scores}
use Rattle.sequencer.specs.Solving.{Solves}
use Rattle.sequencer.specs.Texts.{too_long_text}
use Rattle.sequencer.specs.Trying.{Tries}
use Rattle.sequencer.specs.declared.answer.Answer.{Answer}
use Rattle.command_line.specs.declared.job.Job.{Job}
use Rattle.command_line.specs.declared.job.Job.TheVariants.{Solve, Check, Score, Make, Trial}
use Rattle.sequencer.specs.declared.limits.TheConstants.{MAX_SOLVE_INPUT, MAX_CHECK_INPUT, MAX_SCORE_INPUT}
use Rattle.sequencer.specs.declared.stop.Stop.{Stop}
use Rattle.sequencer.specs.declared.stop.Stop.TheVariants as stops
use Rattle.sequencer.specs.declared.status.Status.{Status}
use Rattle.sequencer.specs.declared.status.Status.TheVariants.{Done, Best, Usage, Refused, Rejected, ReadFault, WriteFault, Memory}

-- What a job answers that reads its input, where `left` is what the source has left and `taken` the bytes that were taken
-- from it: the source was read to its end, or one byte more than the limit was taken, and the input is refused for that.
abbrev pub Reads : ℕ → (List ℕ → List ℕ → Status → Type 0) → Option (List ℕ) → List ℕ → List ℕ → Status → Type 0
Reads limit Answered left taken text status =
    ((length taken ≤ limit) × IsAtEnd left × Answered taken text status)
    ⊎ ((length taken ≡ limit + 1) × (text ≡ too_long_text) × (status ≡ Refused))

-- what a job answers: a status that writes, and the text
abbrev pub Answers : Job → Option (List ℕ) → List ℕ → List ℕ → Status → Type 0
Answers (Solve workers budget cut) left taken text status = Reads MAX_SOLVE_INPUT (Solves workers budget cut) left taken text status
Answers Check left taken text status = Reads MAX_CHECK_INPUT Checks left taken text status
Answers Score left taken text status = Reads MAX_SCORE_INPUT Scores left taken text status
Answers (Make seed size) left taken text status = (taken ≡ []) × (text ≡ spelling (made seed size)) × (status ≡ Done)
Answers (Trial seed size budget cut) left taken text status = (taken ≡ []) × Tries seed size budget cut text status

-- the job, where its workers are counted in this way
abbrev pub with_workers : (ℕ → ℕ) → Job → Job
with_workers counted (Solve workers budget cut) = Solve (counted workers) budget cut
with_workers counted job = job

-- the job without workers: one thread does it
abbrev pub alone : Job → Job
alone = with_workers (λ workers. 0)

-- the job with the workers that were asked for
abbrev pub as_asked : Job → Job
as_asked = with_workers (λ workers. workers)

-- the bytes that a job may take before it stops with a fault or for want of memory
abbrev pub MayTake : Job → List ℕ → Type 0
MayTake (Solve workers budget cut) taken = length taken ≤ MAX_SOLVE_INPUT + 1
MayTake Check taken = length taken ≤ MAX_CHECK_INPUT + 1
MayTake Score taken = length taken ≤ MAX_SCORE_INPUT + 1
MayTake (Make seed size) taken = taken ≡ []
MayTake (Trial seed size budget cut) taken = taken ≡ []

-- an answer was written from the front, but not all of it
pub record IsCutOff (job : Job) (left : Option (List ℕ)) (taken written : List ℕ) : Type 0 where
  pub unwritten : List ℕ
  pub some : 0 < length unwritten
  pub status : Status
  pub answer : Answers job left taken (written ++ unwritten) status

-- the job stopped, and nothing was written
pub record IsStopped (job : Job) (taken written : List ℕ) : Type 0 where
  pub taken_at_most : MayTake job taken
  pub nothing : written ≡ []

-- What a call did that had this job, by its status: all of the answer was written, or it was cut off, or nothing was.
abbrev pub Does : Job → Option (List ℕ) → List ℕ → List ℕ → Status → Type 0
Does job left taken written Done = Answers job left taken written Done
Does job left taken written Best = Answers job left taken written Best
Does job left taken written Usage = ⊥
Does job left taken written Refused = Answers job left taken written Refused
Does job left taken written Rejected = Answers job left taken written Rejected
Does job left taken written ReadFault = IsStopped job taken written
Does job left taken written WriteFault = IsCutOff job left taken written
Does job left taken written Memory = IsStopped job taken written

-- the words ask for a job, and it was done in this way
pub record IsDone (way : Job → Job) (words : List (List ℕ)) (left : Option (List ℕ)) (taken written : List ℕ) (status : Status) : Type 0 where
  pub job : Job
  pub asked : IsJob words job
  pub does : Does (way job) left taken written status

-- the words ask for no job, nothing was taken and nothing was written
pub record IsIdle (words : List (List ℕ)) (taken written : List ℕ) : Type 0 where
  pub no_job : (job : Job) → IsJob words job → ⊥
  pub untouched : taken ≡ []
  pub nothing : written ≡ []

-- the words aren't in the plain form, no memory was left to read them, nothing was taken and nothing was written
pub record IsUnread (words : List (List ℕ)) (taken written : List ℕ) : Type 0 where
  pub not_plain : (job : Job) → IsPlainJob words job → ⊥
  pub untouched : taken ≡ []
  pub nothing : written ≡ []

-- What a call of the program does, by its status: the job that the words ask for in this way, or, where they ask for none or can't
-- be read, nothing.
abbrev pub Runs : (Job → Job) → List (List ℕ) → Option (List ℕ) → List ℕ → List ℕ → Status → Type 0
Runs way words left taken written Usage = IsIdle words taken written
Runs way words left taken written Memory = IsDone way words left taken written Memory ⊎ IsUnread words taken written
Runs way words left taken written status = IsDone way words left taken written status

-- what came of a reading of the whole input: the answer to it, or it stopped with no more taken than may be
abbrev pub EndsReading : ℕ → (List ℕ → List ℕ → Status → Type 0) → Option (List ℕ) → List ℕ → Result Answer Stop → Type 0
EndsReading limit Answered left taken (Ok answer) = Reads limit Answered left taken answer.text.items answer.status
EndsReading limit Answered left taken (Err stop) = length taken ≤ limit + 1

-- the input is refused for its length, unless memory ran out
abbrev pub IsTooLong : Result Answer Stop → Type 0
IsTooLong (Ok answer) = (answer.text.items ≡ too_long_text) × (answer.status ≡ Refused)
IsTooLong (Err stop) = stop ≡ stops.Memory
