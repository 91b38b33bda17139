use Rattle.std.proofs.Common.{◌≡◌, ◌⊎◌, Ok, Err, Result, List, ℕ, ap, inl, inr}
use Rattle.std.specs.Prelude.{IsErrOf}
use Rattle.std.proofs.lemmas.Result.{IfOk-weaker}
use Rattle.command_line.specs.Job.{IsJob}
use Rattle.command_line.specs.Plain.{texts, IsPlainJob}
use Rattle.command_line.specs.Ranges.{Fits}
use Rattle.command_line.specs.declared.job.Job.{Job}
use Rattle.command_line.specs.declared.job.JobRefusal.{JobRefusal}
use Rattle.command_line.specs.declared.job.JobRefusal.TheVariants.{Usage, Memory}
use Rattle.command_line.proofs.FitJobs.{fits_from_job}
use Rattle.command_line.proofs.Inside.{read_fits}
use Rattle.command_line.proofs.OneJob.{one_job}
use Rattle.command_line.proofs.job.job_of.Goals.{In-Err, In-Ok}
use Rattle.command_line.proofs.job.job_of.Goals as goal

job_fits : (words : List (List ℕ)) (job : Job) → IsJob words job → Fits job
job_fits words job (inl plain) = fits_from_job words job plain
job_fits words job (inr read) = read_fits words job read.read

-- the job in the plain form is the only one
plain_answer : (c : In-Ok) (job : Job) → IsPlainJob (texts c.args.words.now) job → ◌≡◌ {A = Result Job JobRefusal} (Ok c.in-Ok.job) (Ok job)
plain_answer c job is = ap Ok (one_job (texts c.args.words.now) c.in-Ok.job job (inl c.in-Ok.ensures.ok) (inl is))

-- the words aren't in the plain form
not_plain : (c : In-Err) (job : Job) → IsPlainJob (texts c.args.words.now) job → ⊥
not_plain c job is = let e = c.in-Err.ensures.asked job is in cc

usage_or_answer : (r : Result Job JobRefusal) (job : Job) → IsErrOf r Usage → (r ≡ Ok job) ⊎ (r ≡ Err Memory) → ⊥
usage_or_answer r job usage (inl answer) = cc
usage_or_answer r job usage (inr memory) = cc

pub returns-in-Ok-clause-plain : goal.returns-in-Ok-clause-plain
returns-in-Ok-clause-plain c = plain_answer (goal.at.returns-in-Ok-clause-plain c).In-Ok

pub returns-in-Ok-clause-asked : goal.returns-in-Ok-clause-asked
returns-in-Ok-clause-asked c = λ job is. elim is [
  | inl plain ↦ inl (plain_answer (goal.at.returns-in-Ok-clause-asked c).In-Ok job plain)
  | inr read ↦ absurd (read.not_plain c.in-Ok.job c.in-Ok.ensures.ok)
]

pub returns-in-Ok-clause-one_job : goal.returns-in-Ok-clause-one_job
returns-in-Ok-clause-one_job c = λ a b p q. one_job (texts c.args.words.now) a b p q

pub returns-in-Ok-clause-range : goal.returns-in-Ok-clause-range
returns-in-Ok-clause-range c = λ job is. job_fits (texts c.args.words.now) job is

pub returns-in-Err-clause-range : goal.returns-in-Err-clause-range
returns-in-Err-clause-range c = λ job is. job_fits (texts c.args.words.now) job is

pub returns-in-Err-clause-ok : goal.returns-in-Err-clause-ok
returns-in-Err-clause-ok c =
    let other = not_plain (goal.at.returns-in-Err-clause-ok c).In-Err in
    IfOk-weaker c.read_job.result _ _ (λ job is. inr (record { not_plain = other; read = is })) c.read_job.ensures.ok

pub returns-in-Err-clause-plain : goal.returns-in-Err-clause-plain
returns-in-Err-clause-plain c = λ job is. absurd (not_plain (goal.at.returns-in-Err-clause-plain c).In-Err job is)

pub returns-in-Err-clause-asked : goal.returns-in-Err-clause-asked
returns-in-Err-clause-asked c = λ job is. elim is [
  | inl plain ↦ absurd (not_plain (goal.at.returns-in-Err-clause-asked c).In-Err job plain)
  | inr read ↦ c.read_job.ensures.asked job read.read
]

pub returns-in-Err-clause-one_job : goal.returns-in-Err-clause-one_job
returns-in-Err-clause-one_job c = λ a b p q. one_job (texts c.args.words.now) a b p q

pub returns-in-Err-clause-usage : goal.returns-in-Err-clause-usage
returns-in-Err-clause-usage c = λ usage job is. elim is [
  | inl plain ↦ absurd (not_plain (goal.at.returns-in-Err-clause-usage c).In-Err job plain)
  | inr read ↦ usage_or_answer c.read_job.result job usage (c.read_job.ensures.asked job read.read)
]
