-- The table of options: what each is.
use Rattle.std.specs.Prelude.{ℕ, ◌≤◌, List, ◌++◌, codes}
use Rattle.command_line.specs.declared.limits.TheConstants.{MAX_SEED}
use Rattle.command_line.specs.declared.option.Opt.{Opt}
use Rattle.command_line.specs.declared.option.Opt.TheVariants.{Workers, Budget, Cut, Seed, Size}
use Rattle.inst_maker.specs.declared.limits.TheConstants.{MAX_SIZE}
use Rattle.joiner.specs.declared.limits.TheConstants.{MAX_WORKERS}
use Rattle.proof_log.specs.declared.limits.TheConstants.{MAX_LABELS}
use Rattle.strip_model.specs.declared.limits.TheConstants.{MAX_HORIZON}

-- what an option is: its place among the options, its name, and the least and the greatest number that may be given
pub record OptionEntry : Type 0 where
  pub place : ℕ
  pub name : List ℕ
  pub least : ℕ
  pub greatest : ℕ

-- an option's entry in the table
abbrev pub entry_of : Opt → OptionEntry
entry_of Workers = record { place = 0; name = codes "workers"; least = 0; greatest = MAX_WORKERS }
entry_of Budget = record { place = 1; name = codes "budget"; least = 1; greatest = MAX_LABELS }
entry_of Cut = record { place = 2; name = codes "cut"; least = 0; greatest = MAX_HORIZON }
entry_of Seed = record { place = 3; name = codes "seed"; least = 0; greatest = MAX_SEED }
entry_of Size = record { place = 4; name = codes "size"; least = 0; greatest = MAX_SIZE }

-- the place of an option
abbrev pub place_of : Opt → ℕ
place_of option = (entry_of option).place

-- the name of an option
abbrev pub name_of : Opt → List ℕ
name_of option = (entry_of option).name

-- the least number of an option
abbrev pub least_of : Opt → ℕ
least_of option = (entry_of option).least

-- the greatest number of an option
abbrev pub greatest_of : Opt → ℕ
greatest_of option = (entry_of option).greatest

-- the word of an option: two strokes, and its name
abbrev pub word_of_option : Opt → List ℕ
word_of_option option = codes "--" ++ name_of option

-- a number is in an option's range
abbrev pub IsInRange : Opt → ℕ → Type 0
IsInRange option n = (least_of option ≤ n) × (n ≤ greatest_of option)
