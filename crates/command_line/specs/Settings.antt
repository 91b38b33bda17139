-- How the words behind a command are read: options, each with a number.
use Rattle.std.specs.Prelude.{◌≡◌, ℕ, List, [], ◌∷◌, Option, None, Some, Result, Ok, Err, IfSome, decimal, All, cond, eqb, get_or}
use Rattle.std.specs.List.{flat_map, filter_map, cons_option}
use Rattle.command_line.specs.Options.{place_of, word_of_option, IsInRange}
use Rattle.command_line.specs.declared.job.NoJob.{NoJob}
use Rattle.command_line.specs.declared.option.Opt.{Opt}
use Rattle.command_line.specs.declared.settings.Setting.{Setting}
use Rattle.command_line.specs.declared.settings.Settings.{Settings}

-- the two words of a setting: an option and a number
abbrev pub words_of : Setting → List (List ℕ)
words_of s = word_of_option s.option ∷ decimal s.number ∷ []

-- the number of a setting is in its option's range
abbrev pub IsSettingInRange : Setting → Type 0
IsSettingInRange s = IsInRange s.option s.number

-- the number that a setting gives this option
abbrev pub number_for : Opt → Setting → Option ℕ
number_for option s = cond (eqb (place_of option) (place_of s.option)) (Some s.number) None

-- the numbers that settings give this option
abbrev pub numbers_for : Opt → List Setting → List ℕ
numbers_for option settings = filter_map (number_for option) settings

-- The words spell settings in range, in any order. An option has the number that is given for it, or none: no option has two.
pub record Spells (words : List (List ℕ)) (given : Opt → Option ℕ) : Type 0 where
  pub settings : List Setting
  pub spelled : words ≡ flat_map words_of settings
  pub in_range : All IsSettingInRange settings
  pub gives : (option : Opt) → numbers_for option settings ≡ cons_option (given option) []

-- the number that was read for an option, at its place
abbrev pub given_in : Settings → Opt → Option ℕ
given_in settings option = get_or settings.numbers (place_of option) None

-- each number that was read is in its option's range
abbrev pub AreInRange : Settings → Type 0
AreInRange settings = (option : Opt) → IfSome (given_in settings option) (IsInRange option)

-- these numbers were read
abbrev pub AreRead : (Opt → Option ℕ) → Result Settings NoJob → Type 0
AreRead given (Ok settings) = (option : Opt) → given_in settings option ≡ given option
AreRead given (Err none) = ⊥
