-- What the words of the program ask for.
use Rattle.std.specs.Prelude.{◌⊎◌, ℕ, List}
use Rattle.command_line.specs.Line.{IsRead}
use Rattle.command_line.specs.Plain.{IsPlainJob}
use Rattle.command_line.specs.declared.job.Job.{Job}
pub use Rattle.command_line.specs.Plain.{texts}

-- the words aren't in the plain form, and ask for this job as a command line
pub record IsReadJob (words : List (List ℕ)) (job : Job) : Type 0 where
  pub not_plain : (other : Job) → IsPlainJob words other → ⊥
  pub read : IsRead words job

-- the words ask for this job, in the plain form or else as a command line
abbrev pub IsJob : List (List ℕ) → Job → Type 0
IsJob words job = IsPlainJob words job ⊎ IsReadJob words job
