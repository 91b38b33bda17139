-- Words as a command line, by the rules of the toolchain's `clap`.
use Rattle.std.specs.Prelude.{◌≡◌, ℕ, List, [], Option, Some, codes, option_map, true}
use Rattle.std.specs.Str.Parse.{digits_value, without_leading_plus}
use Rattle.clap.specs.Faults.{fault_of}
use Rattle.clap.specs.Simple.{App, matches_of, new_app, new_rule, on_top, with_rule}
use Rattle.clap.specs.Walk.{Row, Rule, first_of}
use Rattle.clap.specs.declared.builder.action.ArgAction.TheVariants.{Set}
use Rattle.clap.specs.declared.builder.value_parser.ValueParser.TheVariants.{Unsigned}
use Rattle.command_line.specs.Commands.{job_with, word_of}
use Rattle.command_line.specs.Options.{name_of, least_of, greatest_of}
use Rattle.command_line.specs.declared.command.Command.{Command}
use Rattle.command_line.specs.declared.job.Job.{Job}
use Rattle.command_line.specs.declared.option.Opt.{Opt}
use Rattle.command_line.specs.declared.option.Opt.TheVariants.{Workers, Budget, Cut, Seed, Size}

-- the command's word, wherever it stands among the options
abbrev pub command_rule : Rule
command_rule = record (new_rule (codes "command")) { action = Some Set; required = true }

-- an option with one number in its range
abbrev pub option_rule : Opt → Rule
option_rule option = record (new_rule (name_of option)) {
  long = Some (name_of option);
  action = Some Set;
  parser = Some (Unsigned (least_of option) (greatest_of option));
}

-- no argument yet, and no program's name before the words
abbrev pub bare_app : App
bare_app = on_top (λ shape. record shape { no_binary_name = true; disable_help_flag = true; disable_version_flag = true }) (new_app (codes "strips"))

-- one option more
abbrev pub with_option : App → Opt → App
with_option app option = with_rule app (option_rule option)

-- the command line: the word of a command, and each of the options
abbrev pub words_app : App
words_app = with_option (with_option (with_option (with_option (with_option (with_rule bare_app command_rule) Workers) Budget) Cut) Seed) Size

-- the number of an option among the matches, by the digits of its first value, before which a plus may stand
abbrev pub number_in : List Row → Opt → Option ℕ
number_in rows option = option_map (λ text. digits_value 10 (without_leading_plus text)) (first_of (name_of option) rows)

-- what matches tell of a job: a command by its word, and the command's job with the numbers among them
pub record IsMatched (rows : List Row) (job : Job) : Type 0 where
  pub command : Command
  pub named : first_of (codes "command") rows ≡ Some (word_of command)
  pub job_is : job ≡ job_with command (number_in rows)

-- the words are a command line without a fault, whose matches tell this job
pub record IsRead (words : List (List ℕ)) (job : Job) : Type 0 where
  pub faultless : fault_of words_app words ≡ []
  pub matched : IsMatched (matches_of words_app words) job
