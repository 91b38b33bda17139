use Rattle.std.proofs.Common.{take}
use Rattle.log_check.proofs.AtMarks.{rule_at_mark}
use Rattle.proof_log.specs.Rules.{KeepsCutRule}
use Rattle.proof_log.specs.declared.mark.Mark.{Mark}
use Rattle.log_check.proofs.marking.keeps_cut_rule.Goals as goal

pub returns-in-Cut : goal.returns-in-Cut
returns-in-Cut c =
    let I = c.args.marked.now.instance in
    let log = c.args.marked.now.log in
    let j = c.args.j in
    let P : Mark → Type 0 = λ m. KeepsCutRule I log (take j log.marks.items) m in
    rule_at_mark P log.marks.items j c.mark.result _ c.mark.ensures.mark c.in-Cut.is c.may_cut.result c.may_cut.ensures
