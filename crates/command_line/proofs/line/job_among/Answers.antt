use Rattle.std.proofs.Common.{◌≡◌, ◌∙◌, Ok, Some, ap, codes}
use Rattle.clap.specs.Matches.{found_of}
use Rattle.clap.specs.Walk.{first_of, rows_of}
use Rattle.command_line.specs.Line.{IsMatched}
use Rattle.command_line.proofs.Inside.{text_given, none_given, no_text, same_text}
use Rattle.command_line.proofs.OneJob.{job_alike, one_matched}
use Rattle.command_line.proofs.line.job_among.Goals.{In-Some, After-job}
use Rattle.command_line.proofs.line.job_among.Goals as goal

word_is : (c : In-Some) → first_of (codes "command") (rows_of (found_of c.args.matches.now)) ≡ Some c.in-Some.word.now
word_is c = text_given (found_of c.args.matches.now) (codes "command") c.get_str.result c.in-Some.word c.get_str.ensures c.in-Some.is

matched : (c : After-job) → IsMatched (rows_of (found_of c.args.matches.now)) c.job.result
matched c = record {
  command = c.in_ok-command.command;
  named = text_given (found_of c.args.matches.now) (codes "command") c.get_str.result c.in-Some.word c.get_str.ensures c.in-Some.is
      ∙ ap Some c.in_ok-command.ensures.ok;
  job_is = c.job.ensures ∙ job_alike c.in_ok-command.command _ _ c.given_among-given.ensures.given;
}

pub returns-in_default-clause-asked : goal.returns-in_default-clause-asked
returns-in_default-clause-asked c = λ job is.
    absurd (no_text _ _ (none_given (found_of c.args.matches.now) (codes "command") c.get_str.result c.get_str.ensures c.in_default.is) is.named)

pub returns-in_err-command-clause-asked : goal.returns-in_err-command-clause-asked
returns-in_err-command-clause-asked c = λ job is.
    let word = same_text _ _ _ (word_is (goal.at.returns-in_err-command-clause-asked c).In-Some) is.named in
    let command = c.in_err-command.ensures.asked is.command word in
    cc

pub returns-clause-ok : goal.returns-clause-ok
returns-clause-ok c = matched (goal.at.returns-clause-ok c).After-job

pub returns-clause-asked : goal.returns-clause-asked
returns-clause-asked c = λ job is.
    ap Ok (one_matched _ c.job.result job (matched (goal.at.returns-clause-asked c).After-job) is)
