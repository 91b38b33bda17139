-- How a call begins: with its answer, with a search, or it stops.
use Rattle.std.specs.Prelude.{◌≡◌, ℕ, ◌≤◌, List, [], length, Option, Result, Ok, Err}
use Rattle.command_line.specs.Job.{IsJob}
use Rattle.command_line.specs.declared.job.Job.{Job}
use Rattle.command_line.specs.declared.job.Job.TheVariants.{Solve}
use Rattle.instance_text.specs.Text.{IsText}
use Rattle.seq_io.specs.Source.{IsAtEnd}
use Rattle.sequencer.specs.Run.{Answers, IsIdle, IsUnread, MayTake, with_workers}
use Rattle.sequencer.specs.Solving.{IsNoInstance}
use Rattle.sequencer.specs.Tasks.{IsReady}
use Rattle.sequencer.specs.declared.answer.Answer.{Answer}
use Rattle.sequencer.specs.declared.limits.TheConstants.{MAX_SOLVE_INPUT}
use Rattle.sequencer.specs.declared.opening.Opening.{Opening}
use Rattle.sequencer.specs.declared.opening.Opening.TheVariants.{Answered, Search}
use Rattle.sequencer.specs.declared.status.Status.TheVariants.{Refused}
use Rattle.sequencer.specs.declared.stop.Stop.{Stop}
use Rattle.sequencer.specs.declared.stop.Unanswered.{Unanswered}
use Rattle.sequencer.specs.declared.stop.Unanswered.TheVariants.{Usage, Unread, Stopped}
use Rattle.sequencer.specs.declared.task.Task.{Task}

-- a search on the instance that the input says, with these numbers, is ready to begin
pub record IsSearchOn (workers budget : ℕ) (cut : Option ℕ) (input : List ℕ) (t : Task) : Type 0 where
  pub ready : IsReady t
  pub read : IsText input t.instance
  pub workers_are : t.workers ≡ workers
  pub budget_is : t.budget ≡ budget
  pub cut_is : t.cut ≡ cut

-- how `solve` begins with the whole of its input
abbrev pub OpensSolving : ℕ → ℕ → Option ℕ → List ℕ → Opening → Type 0
OpensSolving workers budget cut input (Answered answer) = IsNoInstance input answer.text.items × (answer.status ≡ Refused)
OpensSolving workers budget cut input (Search t) = IsSearchOn workers budget cut input t

-- the job is to solve, its input was read to its end, and a search on its instance is ready to begin
pub record IsSearchFor (job : Job) (left : Option (List ℕ)) (taken : List ℕ) (t : Task) : Type 0 where
  pub job_is : job ≡ Solve t.workers t.budget t.cut
  pub ready : IsReady t
  pub read : IsText taken t.instance
  pub within : length taken ≤ MAX_SOLVE_INPUT
  pub at_end : IsAtEnd left

-- how a job begins: with its answer, however its workers are counted, or with a search, or it stops
abbrev pub Opens : Job → Option (List ℕ) → List ℕ → Result Opening Stop → Type 0
Opens job left taken (Ok (Answered answer)) = (counted : ℕ → ℕ) → Answers (with_workers counted job) left taken answer.text.items answer.status
Opens job left taken (Ok (Search t)) = IsSearchFor job left taken t
Opens job left taken (Err stop) = MayTake job taken

-- the words ask for a job, and it stopped
pub record IsStoppedFor (words : List (List ℕ)) (taken : List ℕ) : Type 0 where
  pub job : Job
  pub asked : IsJob words job
  pub taken_at_most : MayTake job taken

-- why a call has no answer
abbrev pub Lacks : List (List ℕ) → List ℕ → Unanswered → Type 0
Lacks words taken Usage = IsIdle words taken []
Lacks words taken Unread = IsUnread words taken []
Lacks words taken (Stopped stop) = IsStoppedFor words taken

-- the words ask for a job, and this is the answer to it where its workers are counted in this way
pub record IsAnswerTo (counted : ℕ → ℕ) (words : List (List ℕ)) (left : Option (List ℕ)) (taken : List ℕ) (answer : Answer) : Type 0 where
  pub job : Job
  pub asked : IsJob words job
  pub answers : Answers (with_workers counted job) left taken answer.text.items answer.status

-- the words ask to solve, and the search on the instance that was taken is ready to begin
pub record IsSearchOfCall (words : List (List ℕ)) (left : Option (List ℕ)) (taken : List ℕ) (t : Task) : Type 0 where
  pub asked : IsJob words (Solve t.workers t.budget t.cut)
  pub search : IsSearchFor (Solve t.workers t.budget t.cut) left taken t

-- how a call begins
abbrev pub Begins : List (List ℕ) → Option (List ℕ) → List ℕ → Result Opening Unanswered → Type 0
Begins words left taken (Ok (Answered answer)) = (counted : ℕ → ℕ) → IsAnswerTo counted words left taken answer
Begins words left taken (Ok (Search t)) = IsSearchOfCall words left taken t
Begins words left taken (Err why) = Lacks words taken why

-- what came of a call: its answer, where workers are counted in this way, or it stopped
abbrev pub Comes : (ℕ → ℕ) → List (List ℕ) → Option (List ℕ) → List ℕ → Result Answer Unanswered → Type 0
Comes counted words left taken (Ok answer) = IsAnswerTo counted words left taken answer
Comes counted words left taken (Err why) = Lacks words taken why
