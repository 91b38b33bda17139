use Rattle.std.proofs.Common.{sym, ◌∙◌, ◌+◌, inl}
use Rattle.std.proofs.lemmas.List.{take_rest}
use Rattle.instance_text.proofs.LineLists.{first_line_some, first_line_cut, first_line_one}
use Rattle.instance_text.proofs.reader.split_line.Goals as goal

pub returns-in-Some-clause-lines : goal.returns-in-Some-clause-lines
returns-in-Some-clause-lines c =
    rw (take_rest c.args.bytes.now (c.in-Some.at + 1)) (first_line_some c.args.bytes.now c.in-Some.at (sym c.end_of_line.ensures ∙ c.in-Some.is))

pub returns-in-None-clause-lines : goal.returns-in-None-clause-lines
returns-in-None-clause-lines c = first_line_one c.args.bytes.now c.requires (sym c.end_of_line.ensures ∙ c.in-None.is)

pub returns-in-Some-clause-cut : goal.returns-in-Some-clause-cut
returns-in-Some-clause-cut c =
    rw (take_rest c.args.bytes.now (c.in-Some.at + 1)) (inl (first_line_cut c.args.bytes.now c.in-Some.at (sym c.end_of_line.ensures ∙ c.in-Some.is)))
