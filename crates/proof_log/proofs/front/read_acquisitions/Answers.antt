use Rattle.std.proofs.Common.{◌≡◌, ℕ, ◌+◌, ◌-◌, suc, List, [], ◌∷◌, All, length, map, length-append, ap, subst, sym, ◌∙◌, arith}
use Rattle.std.proofs.lemmas.List.{map-append}
use Rattle.std.proofs.lemmas.List.Elements.{All-push}
use Rattle.plan_check.specs.PlanText.{acquisition_line, IsAcquisitionInText}
use Rattle.proof_log.proofs.Parts.{line_refused, line_passed}
use Rattle.proof_log.specs.AnswerReading.{Passes}
use Rattle.proof_log.specs.AnswerRefusal.{AtPlan, plan_stage}
use Rattle.strip_model.specs.declared.acquisition.Acquisition.{Acquisition}
use Rattle.proof_log.proofs.front.read_acquisitions.Goals as goal

pub returns-in_err-read_acquisition-clause-unread : goal.returns-in_err-read_acquisition-clause-unread
returns-in_err-read_acquisition-clause-unread c =
    let i = c.loop-plan.invariant in
    let more = c.args.wanted - length c.loop-plan.plan.items - 1 in
    let lines = map acquisition_line c.loop-plan.plan.items in
    let P : ℕ → Type 0 = λ n. Passes (plan_stage c.args.wanted) (plan_stage n) lines c.args.reader.now c.loop-plan.reader in
    let one : c.args.wanted - length c.loop-plan.plan.items ≡ suc more = omega (arith, c.len.ensures, c.loop-plan-test.true) in
    let passes = subst P one i.passes in
    line_refused (plan_stage c.args.wanted) (AtPlan more) lines c.args.reader.now c.loop-plan.reader c.read_acquisition.new.reader
    c.in_err-read_acquisition.field-0.0 c.from_residual.result passes c.in_err-read_acquisition.ensures.fault c.in_err-read_acquisition.ensures.line c.from_residual.ensures.1

pub loop-plan-preserved : goal.loop-plan-preserved
loop-plan-preserved c =
    let i = c.loop-plan.invariant in
    let plan = c.loop-plan.plan.items in
    let a = c.in_ok-read_acquisition.field-0 in
    let more = c.args.wanted - length plan - 1 in
    let lines = map acquisition_line plan in
    let pushed = c.in_ok-push.ensures.items in
    let P : ℕ → Type 0 = λ n. Passes (plan_stage c.args.wanted) (plan_stage n) lines c.args.reader.now c.loop-plan.reader in
    let one : c.args.wanted - length plan ≡ suc more = omega (arith, c.len.ensures, c.loop-plan-test.true) in
    let passes = subst P one i.passes in
    let passed = line_passed (plan_stage c.args.wanted) (AtPlan more) lines (acquisition_line a) c.args.reader.now c.loop-plan.reader c.read_acquisition.new.reader
    passes c.in_ok-read_acquisition.ensures.read (sym c.in_ok-read_acquisition.ensures.fault) in
    let long : length c.push.new.self.items ≡ length plan + 1 = ap (λ (xs : List Acquisition). length xs) pushed ∙ length-append plan (a ∷ []) in
    let left : more ≡ c.args.wanted - length c.push.new.self.items = omega (arith, long, c.len.ensures, c.loop-plan-test.true) in
    let L : List (List (List ℕ)) → Type 0 = λ lines. Passes (plan_stage c.args.wanted) (plan_stage more) lines c.args.reader.now c.read_acquisition.new.reader in
    let N : ℕ → Type 0 = λ n. Passes (plan_stage c.args.wanted) (plan_stage n) (map acquisition_line c.push.new.self.items) c.args.reader.now c.read_acquisition.new.reader in
    let I : Acquisition → Type 0 = λ a. IsAcquisitionInText a in
    let A : List Acquisition → Type 0 = λ plan. All I plan in
    record {
      few = omega (arith, long, c.len.ensures, c.loop-plan-test.true);
      in_range = subst A (sym pushed) (All-push I plan a i.in_range c.in_ok-read_acquisition.ensures.in_range);
      passes = subst N left (subst L (sym (map-append acquisition_line plan (a ∷ [])) ∙ ap (λ (xs : List Acquisition). map acquisition_line xs) (sym pushed)) passed);
    }
