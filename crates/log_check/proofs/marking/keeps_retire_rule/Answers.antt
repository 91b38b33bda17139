use Rattle.std.proofs.Common.{take}
use Rattle.log_check.proofs.AtMarks.{rule_at_mark}
use Rattle.proof_log.specs.Rules.{KeepsRetireRule}
use Rattle.proof_log.specs.declared.mark.Mark.{Mark}
use Rattle.log_check.proofs.marking.keeps_retire_rule.Goals as goal

pub returns-in-Retire : goal.returns-in-Retire
returns-in-Retire c =
    let I = c.args.marked.now.instance in
    let log = c.args.marked.now.log in
    let j = c.args.j in
    let P : Mark → Type 0 = λ m. KeepsRetireRule I log (take j log.marks.items) m in
    rule_at_mark P log.marks.items j c.mark.result _ c.mark.ensures.mark c.in-Retire.is c.may_retire.result c.may_retire.ensures
