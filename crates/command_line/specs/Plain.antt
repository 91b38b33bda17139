-- Words in the plain form: a command, and settings behind it.
use Rattle.std.specs.Prelude.{◌≡◌, ℕ, List, ◌∷◌, Option, String, string_bytes, map}
use Rattle.std.specs.declared.alloc.Global.{Global}
use Rattle.command_line.specs.Commands.{word_of, job_with}
use Rattle.command_line.specs.Settings.{Spells}
use Rattle.command_line.specs.declared.command.Command.{Command}
use Rattle.command_line.specs.declared.job.Job.{Job}
use Rattle.command_line.specs.declared.option.Opt.{Opt}

-- the texts of words
abbrev pub texts : List (String Global) → List (List ℕ)
texts words = map string_bytes words

-- The words ask for this job in the plain form: the first is a command, the rest spell settings, and the job is that of the command
-- with the numbers that they give.
pub record IsPlainJob (words : List (List ℕ)) (job : Job) : Type 0 where
  pub command : Command
  pub options : List (List ℕ)
  pub given : Opt → Option ℕ
  pub spelled : words ≡ word_of command ∷ options
  pub settings : Spells options given
  pub job_is : job ≡ job_with command given
