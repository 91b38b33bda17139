use Rattle.std.proofs.Common.{◌≡◌, ◌<◌, length, take, true, false, arith, sym, subst, ap, ◌∙◌, true≢false}
use Rattle.std.proofs.lemmas.List.{get_or_read}
use Rattle.std.proofs.lemmas.Grind.{common_steps}
use Rattle.plan_check.specs.Fault.{no_acquisition, acquisition_at, BreaksRule}
use Rattle.plan_check.specs.declared.fault.PlanFault.TheVariants.{Manoeuvre, Twin}
use Rattle.plan_check.proofs.Faults.{small_place, first_of, passes, passed, passed_turn, none_at, broken_twin}
use Rattle.plan_check.proofs.judging.fault_at.Goals as goal
use Rattle.strip_model.specs.declared.acquisition.Acquisition.{Acquisition}
use Rattle.strip_model.specs.Directed.{strip_of, has_strip}
use Rattle.strip_model.specs.Plan.{order_of}
use Rattle.strip_model.specs.Twins.{keeps_twin}

pub overflow_cast-place : goal.overflow_cast-place
overflow_cast-place c = omega (arith, small_place c.args.instance.now c.args.plan.now c.args.k c.strips-strips.ensures.sound (omega arith) c.requires.below)

pub starts_too_soon-requires-clause-exists : goal.starts_too_soon-requires-clause-exists
starts_too_soon-requires-clause-exists c =
    let at = get_or_read c.args.plan.now c.args.k c.index-plan-k.result c.requires.there c.index-plan-k.is no_acquisition in
    let E : Acquisition → Type 0 = λ a. strip_of a.at < length c.args.instance.now.strips in
    subst E at (grind (arith, common_steps))

pub returns-then-starts_too_soon-clause-first : goal.returns-then-starts_too_soon-clause-first
returns-then-starts_too_soon-clause-first c =
    let J = c.args.instance.now in
    let plan = c.args.plan.now in
    let k = c.args.k in
    let a = c.index-plan-k.result in
    let at = get_or_read plan k a c.requires.there c.index-plan-k.is no_acquisition in
    let exists : strip_of a.at < length J.strips = grind (arith, common_steps) in
    let new : has_strip (strip_of a.at) (order_of (take k plan)) ≡ false = grind (arith, common_steps) in
    let broken : BreaksRule J plan (Manoeuvre k) = c.starts_too_soon.ensures.0 c.if-starts_too_soon.true in
    let p = passes J plan k a c.window-window.result at exists new c.window-window.ensures.value (omega arith) (omega arith) in
    first_of J plan (Manoeuvre k) c.requires.below (record { there = c.requires.there; broken = broken }) (passed J plan k p)

pub returns-then-not-keeps_twin-clause-first : goal.returns-then-not-keeps_twin-clause-first
returns-then-not-keeps_twin-clause-first c =
    let J = c.args.instance.now in
    let plan = c.args.plan.now in
    let k = c.args.k in
    let a = c.index-plan-k.result in
    let at = get_or_read plan k a c.requires.there c.index-plan-k.is no_acquisition in
    let exists : strip_of a.at < length J.strips = grind (arith, common_steps) in
    let new : has_strip (strip_of a.at) (order_of (take k plan)) ≡ false = grind (arith, common_steps) in
    let turn : BreaksRule J plan (Manoeuvre k) → ⊥ = λ b. true≢false (sym (c.starts_too_soon.ensures.1 b) ∙ c.if-starts_too_soon.false) in
    let missing : keeps_twin J (order_of plan) (acquisition_at plan k).at ≡ false = ap (λ (a : Acquisition). keeps_twin J (order_of plan) a.at) (sym at) ∙ sym c.keeps_twin.ensures ∙ c.if-not-keeps_twin.true in
    let p = passes J plan k a c.window-window.result at exists new c.window-window.ensures.value (omega arith) (omega arith) in
    first_of J plan (Twin k) c.requires.below (record { there = c.requires.there; broken = broken_twin J plan k missing }) (passed_turn J plan k p turn)

pub returns-clause-none : goal.returns-clause-none
returns-clause-none c =
    let J = c.args.instance.now in
    let plan = c.args.plan.now in
    let k = c.args.k in
    let a = c.index-plan-k.result in
    let at = get_or_read plan k a c.requires.there c.index-plan-k.is no_acquisition in
    let exists : strip_of a.at < length J.strips = grind (arith, common_steps) in
    let new : has_strip (strip_of a.at) (order_of (take k plan)) ≡ false = grind (arith, common_steps) in
    let turn : BreaksRule J plan (Manoeuvre k) → ⊥ = λ b. true≢false (sym (c.starts_too_soon.ensures.1 b) ∙ c.if-starts_too_soon.false) in
    let there : keeps_twin J (order_of plan) (acquisition_at plan k).at ≡ true = ap (λ (a : Acquisition). keeps_twin J (order_of plan) a.at) (sym at) ∙ sym c.keeps_twin.ensures ∙ c.if-not-keeps_twin.false in
    let p = passes J plan k a c.window-window.result at exists new c.window-window.ensures.value (omega arith) (omega arith) in
    none_at J plan k c.requires.below p turn there
