-- How a call goes on from its beginning.
use Rattle.std.proofs.Common.{◌≡◌, ◌↔◌, ℕ, ◌≤◌, List, [], Option, Result, Ok, Err, IsErrOf, length, inl, refl, sym, ◌∙◌, ap, subst, arith}
use Rattle.command_line.specs.Job.{IsJob}
use Rattle.command_line.specs.declared.job.Job.{Job}
use Rattle.command_line.specs.declared.job.Job.TheVariants.{Solve, Check, Score, Make, Trial}
use Rattle.seq_io.specs.Count.{HasCause}
use Rattle.seq_io.specs.Source.{IsAtEnd}
use Rattle.sequencer.proofs.Answered.{cause_alike}
use Rattle.sequencer.specs.Opening.{Begins, Comes, IsAnswerTo, IsSearchFor, IsSearchOfCall, IsStoppedFor, Lacks, Opens, OpensSolving}
use Rattle.sequencer.specs.Run.{MayTake, Runs, with_workers}
use Rattle.sequencer.specs.Solving.{Solves}
use Rattle.sequencer.specs.declared.answer.Answer.{Answer}
use Rattle.sequencer.specs.declared.limits.TheConstants.{MAX_SOLVE_INPUT}
use Rattle.sequencer.specs.declared.opening.Opening.{Opening}
use Rattle.sequencer.specs.declared.opening.Opening.TheVariants.{Answered, Search}
use Rattle.sequencer.specs.declared.status.Status.{Status}
use Rattle.sequencer.specs.declared.status.Status.TheVariants.{ReadFault, Memory}
use Rattle.sequencer.specs.declared.stop.Stop.{Stop}
use Rattle.sequencer.specs.declared.stop.Stop.TheVariants as stops
use Rattle.sequencer.specs.declared.stop.Unanswered.{Unanswered}
use Rattle.sequencer.specs.declared.stop.Unanswered.TheVariants.{Stopped}
use Rattle.sequencer.specs.declared.task.Task.{Task}

-- how `solve` begins, where the input was read to its end
pub opens_solving : (workers budget : ℕ) (cut : Option ℕ) (left : Option (List ℕ)) (taken : List ℕ) (o : Opening)
    → length taken ≤ MAX_SOLVE_INPUT → IsAtEnd left → OpensSolving workers budget cut taken o → Opens (Solve workers budget cut) left taken (Ok o)
opens_solving workers budget cut left taken (Answered answer) within at_end h = λ counted.
    inl (within, at_end, subst (λ (s : Status). Solves (counted workers) budget cut taken answer.text.items s) (sym h.1) h.0)
opens_solving workers budget cut left taken (Search t) within at_end h = record {
  job_is = rw (h.workers_are, h.budget_is, h.cut_is) refl;
  ready = h.ready;
  read = h.read;
  within = within;
  at_end = at_end;
}

-- how a call begins, where the words ask for this job
pub begins_job : (words : List (List ℕ)) (left : Option (List ℕ)) (taken : List ℕ) (job : Job) → IsJob words job → (o : Opening)
    → Opens job left taken (Ok o) → Begins words left taken (Ok o)
begins_job words left taken job asked (Answered answer) h = λ counted. record { job = job; asked = asked; answers = h counted }
begins_job words left taken job asked (Search t) h = record {
  asked = subst (λ (j : Job). IsJob words j) h.job_is asked;
  search = subst (λ (j : Job). IsSearchFor j left taken t) h.job_is h;
}

-- a call that began with its answer
pub answered_in : (words : List (List ℕ)) (left : Option (List ℕ)) (taken : List ℕ) (o : Opening) (answer : Answer) → o ≡ Answered answer
    → Begins words left taken (Ok o) → (counted : ℕ → ℕ) → IsAnswerTo counted words left taken answer
answered_in words left taken o answer is h = subst (λ (p : Opening). Begins words left taken (Ok p)) is h

-- a call that began with a search
pub search_in : (words : List (List ℕ)) (left : Option (List ℕ)) (taken : List ℕ) (o : Opening) (t : Task) → o ≡ Search t
    → Begins words left taken (Ok o) → IsSearchOfCall words left taken t
search_in words left taken o t is h = subst (λ (p : Opening). Begins words left taken (Ok p)) is h

-- a call that began, and whose answer is no fault of reading, met none
pub cause_begun : (before after : ℕ) (o : Opening) (r : Result Answer Unanswered)
    → HasCause before after (IsErrOf {T = Opening} {E = Unanswered} (Ok o) (Stopped stops.ReadFault)) → (IsErrOf r (Stopped stops.ReadFault) → ⊥)
    → HasCause before after (IsErrOf r (Stopped stops.ReadFault))
cause_begun before after o r cause none =
    cause_alike before after cause ((λ fault. absurd (none fault)), (λ fault. absurd (let e = fault in cc)))

module _ (counted : ℕ → ℕ) (words : List (List ℕ)) (left : Option (List ℕ)) (taken : List ℕ) (t : Task) (call : IsSearchOfCall words left taken t) where
  -- the answer of a search
  pub comes_search : (answer : Answer) → Solves (counted t.workers) t.budget t.cut taken answer.text.items answer.status
      → Comes counted words left taken (Ok answer)
  comes_search answer h = record {
    job = Solve t.workers t.budget t.cut;
    asked = call.asked;
    answers = inl (call.search.within, call.search.at_end, h);
  }

  -- a search that stopped
  pub comes_stopped : (stop : Stop) → Comes counted words left taken (Err (Stopped stop))
  comes_stopped stop =
      let within : length taken ≤ MAX_SOLVE_INPUT = call.search.within in
      record { job = Solve t.workers t.budget t.cut; asked = call.asked; taken_at_most = omega (arith, within) }

-- what a job may take doesn't depend on its workers
pub may_take : (counted : ℕ → ℕ) (job : Job) (taken : List ℕ) → MayTake job taken → MayTake (with_workers counted job) taken
may_take counted (Solve workers budget cut) taken h = h
may_take counted Check taken h = h
may_take counted Score taken h = h
may_take counted (Make seed size) taken h = h
may_take counted (Trial seed size budget cut) taken h = h

-- ---- what is written

-- the answer of a call
pub answer_in : (counted : ℕ → ℕ) (words : List (List ℕ)) (left : Option (List ℕ)) (taken : List ℕ) (r : Result Answer Unanswered) (answer : Answer)
    → r ≡ Ok answer → Comes counted words left taken r → IsAnswerTo counted words left taken answer
answer_in counted words left taken r answer is h = subst (λ (q : Result Answer Unanswered). Comes counted words left taken q) is h

-- why a call has none
pub lack_in : (counted : ℕ → ℕ) (words : List (List ℕ)) (left : Option (List ℕ)) (taken : List ℕ) (r : Result Answer Unanswered) (why : Unanswered)
    → r ≡ Err why → Comes counted words left taken r → Lacks words taken why
lack_in counted words left taken r why is h = subst (λ (q : Result Answer Unanswered). Comes counted words left taken q) is h

-- the same cause by its name
pub lack_as : (words : List (List ℕ)) (taken : List ℕ) (given why : Unanswered) → given ≡ why → Lacks words taken given → Lacks words taken why
lack_as words taken given why is h = subst (λ (w : Unanswered). Lacks words taken w) is h

-- a call without an answer tells a fault of reading exactly where that is why
pub fault_without : (r : Result Answer Unanswered) (why : Unanswered) (status : Status) → r ≡ Err why
    → (status ≡ ReadFault) ↔ (why ≡ Stopped stops.ReadFault) → (status ≡ ReadFault) ↔ IsErrOf r (Stopped stops.ReadFault)
fault_without r why status is same = ((λ e. is ∙ ap (λ (w : Unanswered). Err w) (same.0 e)), (λ fault. same.1 (let e = sym is ∙ fault in cc)))

-- a call with an answer tells none
pub no_fault_within : (r : Result Answer Unanswered) (answer : Answer) (status : Status) → r ≡ Ok answer → (status ≡ ReadFault → ⊥)
    → (status ≡ ReadFault) ↔ IsErrOf r (Stopped stops.ReadFault)
no_fault_within r answer status is none = ((λ e. absurd (none e)), (λ fault. absurd (let e = sym is ∙ fault in cc)))

-- the job stopped with a fault of reading
pub runs_read_fault : (counted : ℕ → ℕ) (words : List (List ℕ)) (left : Option (List ℕ)) (taken : List ℕ) → IsStoppedFor words taken
    → Runs (with_workers counted) words left taken [] ReadFault
runs_read_fault counted words left taken h = record {
  job = h.job;
  asked = h.asked;
  does = record { taken_at_most = may_take counted h.job taken h.taken_at_most; nothing = refl };
}

-- the job stopped for want of memory
pub runs_memory : (counted : ℕ → ℕ) (words : List (List ℕ)) (left : Option (List ℕ)) (taken : List ℕ) → IsStoppedFor words taken
    → Runs (with_workers counted) words left taken [] Memory
runs_memory counted words left taken h =
    inl (record {
      job = h.job;
      asked = h.asked;
      does = record { taken_at_most = may_take counted h.job taken h.taken_at_most; nothing = refl };
    })
