use Rattle.std.proofs.Common.{ℕ, Option, length}
use Rattle.command_line.specs.Plain.{texts}
use Rattle.command_line.specs.Settings.{AreInRange, Spells, given_in}
use Rattle.command_line.specs.declared.option.Opt.{Opt}
use Rattle.command_line.proofs.Spelled.{SpellsFrom}
use Rattle.command_line.proofs.settings.settings_of.Given as goal

-- what comes of the rest is what comes of all words
abbrev pub invariant-loop-rest : goal.invariant-loop-rest
invariant-loop-rest l = record {
  back : (given : Opt → Option ℕ) → SpellsFrom (texts l.rest) (given_in l.settings) given → Spells (texts l.words) given;
  on : (given : Opt → Option ℕ) → Spells (texts l.words) given → SpellsFrom (texts l.rest) (given_in l.settings) given;
  range : AreInRange l.settings;
}

abbrev pub decreases-loop-rest : goal.decreases-loop-rest
decreases-loop-rest l = length l.rest
