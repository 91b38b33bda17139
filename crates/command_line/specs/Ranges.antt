-- The ranges of a job's numbers.
use Rattle.std.specs.Prelude.{ℕ, ◌≤◌, Option, IfSome, ⊤}
use Rattle.command_line.specs.Options.{least_of, greatest_of}
use Rattle.command_line.specs.declared.job.Job.{Job}
use Rattle.command_line.specs.declared.job.Job.TheVariants.{Solve, Make, Trial}
use Rattle.command_line.specs.declared.option.Opt.TheVariants.{Workers, Budget, Cut, Size}

-- what may be given: a budget of some labels, but no more than an answer can tell, and a cut within the greatest horizon
pub record AreInRange (budget : ℕ) (cut : Option ℕ) : Type 0 where
  pub some : least_of Budget ≤ budget
  pub few : budget ≤ greatest_of Budget
  pub tick : IfSome cut (λ tick. tick ≤ greatest_of Cut)

-- a job that words can ask for: its numbers are in range
abbrev pub Fits : Job → Type 0
Fits (Solve workers budget cut) = (workers ≤ greatest_of Workers) × AreInRange budget cut
Fits (Make seed size) = size ≤ greatest_of Size
Fits (Trial seed size budget cut) = (size ≤ greatest_of Size) × AreInRange budget cut
Fits _ = ⊤
