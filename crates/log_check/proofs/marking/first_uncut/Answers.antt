use Rattle.std.proofs.Common.{ℕ, ◌≤◌, length, rules}
use Rattle.log_check.proofs.AtMarks.{kept_more, cut_to_end}
use Rattle.log_check.specs.Faults.{Keeps}
use Rattle.log_check.specs.Faults.Rule.{CutAreBounded}
use Rattle.log_check.proofs.marking.first_uncut.Goals as goal

pub loop-j-preserved : goal.loop-j-preserved
loop-j-preserved c =
    let P : ℕ → Type 0 = λ n. Keeps c.args.marked.now.instance c.args.marked.now.log CutAreBounded n in
    kept_more P c.loop-j.j c.loop-j.invariant (c.keeps_cut_rule.ensures.0 c.if-not-keeps_cut_rule.false)

pub returns : goal.returns
returns c =
    let end : length c.args.marked.now.log.marks.items ≤ c.loop-j.j = search rules in
    cut_to_end c.args.marked.now.instance c.args.marked.now.log c.loop-j.j end c.loop-j.invariant
