use Rattle.std.proofs.Common.{◌≡◌, ◌∷◌, ◌-◌, length, take, drop, arith}
use Rattle.command_line.specs.Plain.{texts}
use Rattle.command_line.proofs.OneJob.{job_alike}
use Rattle.command_line.proofs.Spelled.{first_word, asks_by}
use Rattle.command_line.proofs.job.plain_job.Goals.{After-of_word}
use Rattle.command_line.proofs.job.plain_job.Goals as goal

-- the texts of the words, the first of which is read
words_are : (c : After-of_word) → texts c.args.words.now
    ≡ c.as_str.result.now ∷ texts (take (length c.args.words.now - 1) (drop 1 c.args.words.now))
words_are c = first_word _ c.word-item.result _ (omega arith) c.word-item.is c.as_str.ensures.value

pub returns-in_err-given-clause-asked : goal.returns-in_err-given-clause-asked
returns-in_err-given-clause-asked c = λ job is.
    let words = words_are (goal.at.returns-in_err-given-clause-asked c).After-of_word in
    let h = asks_by _ _ job (rw words at is) in
    absurd (c.in_err-given.ensures.asked h.given h.settings)

pub returns-clause-asked : goal.returns-clause-asked
returns-clause-asked c = λ job is.
    let words = words_are (goal.at.returns-clause-asked c).After-of_word in
    let h = asks_by _ _ job (rw words at is) in
    let command = c.in_ok-command.ensures.asked h.command h.word_is in
    let same = job_alike h.command _ h.given (c.in_ok-given.ensures.asked h.given h.settings) in
    let job_is = h.job_is in
    let made = c.job.ensures in
    cc
