use Rattle.std.proofs.Common.{◌≡◌, ◌↔◌}
use Rattle.std.proofs.lemmas.Result.{IfOk-weaker}
use Rattle.log_check.proofs.RulesInTurn.{accepts_proofs}
use Rattle.log_check.specs.Verdicts.{IsVerdict}
use Rattle.log_check.specs.declared.verdict.Verdict.{Verdict}
use Rattle.log_check.specs.declared.verdict.Verdict.TheVariants.{Accepted}
use Rattle.proof_log.proofs.Optimum.{optimal}
use Rattle.proof_log.specs.Rules.{IsProof}
use Rattle.strip_model.specs.Optimal.{Optimal}
use Rattle.log_check.proofs.checking.check.Goals as goal

pub returns-clause-accepted : goal.returns-clause-accepted
returns-clause-accepted c =
    let I = c.args.instance.now in
    let log = c.args.log.now in
    IfOk-weaker c.verdict_on.result (IsVerdict I log) (λ (verdict : Verdict). (verdict ≡ Accepted) ↔ IsProof I log)
    (λ verdict is. accepts_proofs I log verdict is) c.verdict_on.ensures

pub returns-clause-optimal : goal.returns-clause-optimal
returns-clause-optimal c =
    let I = c.args.instance.now in
    let log = c.args.log.now in
    IfOk-weaker c.verdict_on.result (IsVerdict I log) (λ (verdict : Verdict). verdict ≡ Accepted → Optimal I log.plan.items)
    (λ verdict is accepted. optimal I log c.strips-strips.ensures.sound ((accepts_proofs I log verdict is).0 accepted)) c.verdict_on.ensures
