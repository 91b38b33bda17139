use Rattle.std.proofs.Common.{ℕ, List, ap}
use Rattle.seq_io.specs.StrictText.{Rest, at_line, behind_line}
use Rattle.seq_io.proofs.strict_reader.StrictReader.new.Goals as goal

pub returns : goal.returns
unfolding at_line
returns c =
    let rest : List (List ℕ) → Rest = λ tokens. record { line = 1; tokens = tokens; after = behind_line c.args.text.now } in
    ap rest c.is_line_begun.ensures.tokens
