use Rattle.std.proofs.Common.{List, sym, subst}
use Rattle.clap.specs.Walk.{Row}
use Rattle.command_line.specs.Line.{IsMatched}
use Rattle.command_line.proofs.line.read_job.Goals as goal

pub returns-clause-asked : goal.returns-clause-asked
returns-clause-asked c = λ job is.
    let matched = subst (λ (rows : List Row). IsMatched rows job) (sym c.in_ok-matches.ensures.rows) is.matched in
    let asked = c.in-Err.ensures.asked job matched in
    cc
