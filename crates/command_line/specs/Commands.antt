-- The table of commands: the word of each, and its job.
use Rattle.std.specs.Prelude.{ℕ, List, Option, unwrap_or, codes}
use Rattle.command_line.specs.declared.command.Command.{Command}
use Rattle.command_line.specs.declared.command.Command.TheVariants as command
use Rattle.command_line.specs.declared.job.Job.{Job}
use Rattle.command_line.specs.declared.job.Job.TheVariants.{Solve, Check, Score, Make, Trial}
use Rattle.command_line.specs.declared.job.TheConstants.{DEFAULT_WORKERS, DEFAULT_BUDGET, DEFAULT_SEED, DEFAULT_SIZE}
use Rattle.command_line.specs.declared.option.Opt.{Opt}
use Rattle.command_line.specs.declared.option.Opt.TheVariants.{Workers, Budget, Cut, Seed, Size}

-- the word of a command
abbrev pub word_of : Command → List ℕ
word_of command.Solve = codes "solve"
word_of command.Check = codes "check"
word_of command.Score = codes "score"
word_of command.Make = codes "make"
word_of command.Trial = codes "trial"

-- The job of a command with the numbers that are given. Other numbers have their default, but the cut, which then depends on the
-- instance. A number that a command doesn't use has no effect.
abbrev pub job_with : Command → (Opt → Option ℕ) → Job
job_with command.Solve given = Solve (unwrap_or (given Workers) DEFAULT_WORKERS) (unwrap_or (given Budget) DEFAULT_BUDGET) (given Cut)
job_with command.Check given = Check
job_with command.Score given = Score
job_with command.Make given = Make (unwrap_or (given Seed) DEFAULT_SEED) (unwrap_or (given Size) DEFAULT_SIZE)
job_with command.Trial given =
    Trial (unwrap_or (given Seed) DEFAULT_SEED) (unwrap_or (given Size) DEFAULT_SIZE) (unwrap_or (given Budget) DEFAULT_BUDGET) (given Cut)
