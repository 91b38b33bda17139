-- The values of options among the matches of a command line.
use Rattle.std.specs.Prelude.{◌≡◌, ℕ, List, Some}
use Rattle.clap.specs.Values.{IsUnsignedIn}
use Rattle.clap.specs.Walk.{Row, first_of}
use Rattle.command_line.specs.Options.{name_of, least_of, greatest_of}
use Rattle.command_line.specs.declared.option.Opt.{Opt}

-- the first value of the option, if there is one, is a number in its range
abbrev pub IsInside : List Row → Opt → Type 0
IsInside rows option = (text : List ℕ) → first_of (name_of option) rows ≡ Some text → IsUnsignedIn (least_of option) (greatest_of option) text

-- so it is of each option
abbrev pub AreInside : List Row → Type 0
AreInside rows = (option : Opt) → IsInside rows option
