use Rattle.std.proofs.Common.{◌≡◌, ◌∙◌, Some, ap, sym, List, ℕ, Option}
use Rattle.std.specs.Prelude.{option_map}
use Rattle.std.specs.Str.Parse.{digits_value, without_leading_plus}
use Rattle.clap.specs.Matches.{first_value, found_of}
use Rattle.clap.specs.Walk.{first_of, rows_of}
use Rattle.command_line.proofs.Inside.{text_given, none_given}
use Rattle.command_line.specs.Options.{name_of}
use Rattle.command_line.proofs.line.number.Goals.{In-Some}
use Rattle.command_line.proofs.line.number.Goals as goal

-- the number of a text, if there is one
abbrev number_of : Option (List ℕ) → Option ℕ
number_of = option_map (λ text. digits_value 10 (without_leading_plus text))

text_is : (c : In-Some) → first_of (name_of c.args.option) (rows_of (found_of c.args.matches.now)) ≡ Some c.in-Some.text.now
text_is c =
    let name = ap (λ (n : List ℕ). first_value (found_of c.args.matches.now) n) c.entry.ensures.name in
    text_given (found_of c.args.matches.now) (name_of c.args.option) c.get_str.result c.in-Some.text (c.get_str.ensures ∙ name) c.in-Some.is

pub returns-in_default-clause-value : goal.returns-in_default-clause-value
returns-in_default-clause-value c =
    let name = ap (λ (n : List ℕ). first_value (found_of c.args.matches.now) n) c.entry.ensures.name in
    let none = none_given (found_of c.args.matches.now) (name_of c.args.option) c.get_str.result (c.get_str.ensures ∙ name) c.in_default.is in
    sym (ap number_of none)

pub returns-in-Ok-clause-value : goal.returns-in-Ok-clause-value
returns-in-Ok-clause-value c =
    let text = text_is (goal.at.returns-in-Ok-clause-value c).In-Some in
    ap Some c.in-Ok.ensures.value.0.1 ∙ sym (ap number_of text)

pub returns-in-Ok-clause-inside : goal.returns-in-Ok-clause-inside
returns-in-Ok-clause-inside c =
    let inside = c.requires c.in-Some.text.now (text_is (goal.at.returns-in-Ok-clause-inside c).In-Some) in
    rw c.in-Ok.ensures.value.0.1 (inside.2, inside.3)

pub returns-in-Err-clause-value : goal.returns-in-Err-clause-value
returns-in-Err-clause-value c =
    let inside = c.requires c.in-Some.text.now (text_is (goal.at.returns-in-Err-clause-value c).In-Some) in
    absurd (c.in-Err.ensures.value.0 (inside.0, inside.1))
