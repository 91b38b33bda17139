use Rattle.std.proofs.Common.{◌≡◌, List, ℕ, ap, subst, sym, ◌∙◌}
use Rattle.closer.proofs.Finished.{CanPublish-earliest, IsInTime-feasible, HasEarliestStarts-is, same_gain}
use Rattle.closer.proofs.Joined.{Replans-publish, HasEarliestStarts-published}
use Rattle.strip_model.specs.Orbit.{Orbit}
use Rattle.strip_model.specs.Plan.{order_of}
use Rattle.strip_model.specs.Starts.{Root, earliest, IsInTime}
use Rattle.strip_model.specs.declared.acquisition.Acquisition.{Acquisition}
use Rattle.closer.proofs.finishing.set_earliest.Goals as goal

pub plan_of-requires : goal.plan_of-requires
plan_of-requires c =
    let order : c.deref.result.now ≡ order_of c.args.core.now.state.incumbent =
    c.deref.ensures.value ∙ c.in_ok-order.ensures ∙ ap (λ (p : List Acquisition). order_of p) c.plan.ensures.value in
    subst (λ (I : Orbit). IsInTime I c.deref.result.now) c.requires
    (subst (λ (xs : List ℕ). IsInTime c.args.core.now.instance xs) (sym order)
    (IsInTime-feasible c.args.core.now.instance c.args.core.now.state.incumbent c.plan.ensures.feasible))

pub publish-requires-clause-can : goal.publish-requires-clause-can
publish-requires-clause-can c =
    CanPublish-earliest c.args.core.now.instance c.args.core.now.state c.in_ok-plan.plan.items c.plan.ensures.feasible
    (c.in_ok-plan.ensures
    ∙ ap (λ (I : Orbit). earliest I Root c.deref.result.now) (sym c.requires)
    ∙ ap (λ (xs : List ℕ). earliest c.args.core.now.instance Root xs)
    (c.deref.ensures.value ∙ c.in_ok-order.ensures ∙ ap (λ (p : List Acquisition). order_of p) c.plan.ensures.value))

pub publish-requires-clause-gain : goal.publish-requires-clause-gain
publish-requires-clause-gain c =
    c.gain-gain.ensures.value
    ∙ sym (same_gain c.args.core.now.instance c.args.core.now.state.incumbent c.in_ok-plan.plan.items
    (c.in_ok-plan.ensures
    ∙ ap (λ (I : Orbit). earliest I Root c.deref.result.now) (sym c.requires)
    ∙ ap (λ (xs : List ℕ). earliest c.args.core.now.instance Root xs)
    (c.deref.ensures.value ∙ c.in_ok-order.ensures ∙ ap (λ (p : List Acquisition). order_of p) c.plan.ensures.value)))

pub returns-clause-replans : goal.returns-clause-replans
returns-clause-replans c =
    Replans-publish c.args.core.now c.publish.new.self c.in_ok-plan.plan.items
    (CanPublish-earliest c.args.core.now.instance c.args.core.now.state c.in_ok-plan.plan.items c.plan.ensures.feasible
    (c.in_ok-plan.ensures
    ∙ ap (λ (I : Orbit). earliest I Root c.deref.result.now) (sym c.requires)
    ∙ ap (λ (xs : List ℕ). earliest c.args.core.now.instance Root xs)
    (c.deref.ensures.value ∙ c.in_ok-order.ensures ∙ ap (λ (p : List Acquisition). order_of p) c.plan.ensures.value)))
    c.publish.ensures

pub returns-clause-earliest : goal.returns-clause-earliest
returns-clause-earliest c =
    HasEarliestStarts-published c.args.core.now c.publish.new.self c.in_ok-plan.plan.items
    (HasEarliestStarts-is c.args.core.now.instance c.in_ok-plan.plan.items c.deref.result.now
    (c.in_ok-plan.ensures ∙ ap (λ (I : Orbit). earliest I Root c.deref.result.now) (sym c.requires)))
    c.publish.ensures
