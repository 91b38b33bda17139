use Rattle.std.proofs.Common.{◌≡◌, ◌∙◌, ap, sym, subst, List, []}
use Rattle.clap.specs.Faults.{fault_of, is_simple_and_free}
use Rattle.clap.specs.Matches.{found_of}
use Rattle.clap.specs.Simple.{App, app_of, is_simple, matches_of}
use Rattle.clap.specs.Walk.{Row, rows_of}
use Rattle.command_line.specs.Line.{words_app}
use Rattle.command_line.specs.Plain.{texts}
use Rattle.command_line.specs.Values.{AreInside}
use Rattle.command_line.proofs.Inside.{all_inside, error_is, is_line, is_simple_line, not_faultless}
use Rattle.command_line.proofs.line.matches_in.Goals.{In-Ok}
use Rattle.command_line.proofs.line.matches_in.Goals as goal

faultless : (c : In-Ok) → fault_of words_app (texts c.args.words.now) ≡ []
faultless c =
    subst (λ (a : App). fault_of a (texts c.args.words.now) ≡ []) c.requires (c.in-Ok.ensures.kinds (ap is_simple_and_free c.requires ∙ is_simple_line))

rows : (c : In-Ok) → rows_of (found_of c.in-Ok.matches) ≡ matches_of words_app (texts c.args.words.now)
rows c =
    (c.in-Ok.ensures.matches (ap is_simple c.requires ∙ is_line)).0 ∙ ap (λ (a : App). matches_of a (texts c.args.words.now)) c.requires

pub returns-in-Ok-clause-faultless : goal.returns-in-Ok-clause-faultless
returns-in-Ok-clause-faultless c = faultless (goal.at.returns-in-Ok-clause-faultless c).In-Ok

pub returns-in-Ok-clause-rows : goal.returns-in-Ok-clause-rows
returns-in-Ok-clause-rows c = rows (goal.at.returns-in-Ok-clause-rows c).In-Ok

pub returns-in-Ok-clause-inside : goal.returns-in-Ok-clause-inside
returns-in-Ok-clause-inside c =
    let here = (goal.at.returns-in-Ok-clause-inside c).In-Ok in
    subst (λ (rs : List Row). AreInside rs) (sym (rows here)) (all_inside (texts c.args.words.now) (faultless here))

pub returns-in-Err-clause-usage : goal.returns-in-Err-clause-usage
returns-in-Err-clause-usage c = λ is none.
    not_faultless (fault_of (app_of c.args.line) (texts c.args.words.now)) c.in-Err.error
    (c.in-Err.ensures.kinds (ap is_simple_and_free c.requires ∙ is_simple_line))
    (λ memory. c.refusal_of.ensures.usage (error_is _ _ is) (c.kind.ensures ∙ memory))
    (ap (λ (a : App). fault_of a (texts c.args.words.now)) c.requires ∙ none)
