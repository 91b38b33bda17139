use Rattle.std.proofs.Common.{refl, sym, subst}
use Rattle.std.specs.Prelude.{IfOk}
use Rattle.log_check.proofs.RulesInTurn.{one_more_kept}
use Rattle.log_check.specs.Faults.{IsKept, IsFirstPlace}
use Rattle.log_check.specs.Faults.Rule.{LabelsAreRight, MarksNameLabels}
use Rattle.log_check.specs.Reading.{Read}
use Rattle.log_check.specs.Verdicts.{AreKeptBefore, IsVerdict}
use Rattle.proof_log.specs.declared.log.Log.{Log}
use Rattle.log_check.proofs.checking.verdict_on_labels.Goals as goal

pub returns-in-Some : goal.returns-in-Some
returns-in-Some c =
    let I = c.args.reading.now.instance in
    let log = c.args.reading.now.log in
    let right = rw c.in-Right.is at c.in_ok-at.ensures in
    let F : Log → Type 0 = λ log. IsFirstPlace I log MarksNameLabels c.in-Some.at in (
      MarksNameLabels,
      refl,
      record { at = subst F c.log.ensures (c.in-Some.ensures I); earlier = one_more_kept I log LabelsAreRight 4 refl c.requires right.1 },
    )

pub verdict_on_marks-requires : goal.verdict_on_marks-requires
verdict_on_marks-requires c =
    let I = c.args.reading.now.instance in
    let log = c.args.reading.now.log in
    let right = rw c.in-Right.is at c.in_ok-at.ensures in
    let named = subst (λ (log : Log). IsKept I log MarksNameLabels) c.log.ensures (c.in-None.ensures I) in
    let five = one_more_kept I log MarksNameLabels 5 refl (one_more_kept I log LabelsAreRight 4 refl c.requires right.1) named in
    subst (λ (r : Read). AreKeptBefore r.instance r.log 5) (sym right.0) five

pub returns : goal.returns
returns c =
    let right = rw c.in-Right.is at c.in_ok-at.ensures in
    subst (λ (r : Read). IfOk c.verdict_on_marks.result (IsVerdict r.instance r.log)) right.0 c.verdict_on_marks.ensures
