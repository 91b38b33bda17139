use Rattle.std.proofs.Common.{◌≤◌, length, List, rules, ap, ◌∙◌}
use Rattle.std.proofs.lemmas.List.{take_all}
use Rattle.proof_log.specs.Labels.{is_marked}
use Rattle.proof_log.specs.declared.mark.Mark.{Mark}
use Rattle.log_check.proofs.times.is_marked.Goals as goal

pub returns : goal.returns
returns c =
    let all : length c.args.log.now.marks.items ≤ c.len.result = search rules in
    c.is_marked_before.ensures ∙ ap (λ (marks : List Mark). is_marked c.args.end c.args.label marks) (take_all c.len.result c.args.log.now.marks.items all)
