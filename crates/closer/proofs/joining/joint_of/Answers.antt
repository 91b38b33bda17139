use Rattle.std.proofs.Common.{◌≡◌, List, ℕ, ◌++◌, reverse, Option, ap, subst, ◌∙◌, refl}
use Rattle.closer.proofs.Joined.{IsBest-same, HasNoBetterJoin-none, IsJoint-greatest, IsInTime-joins}
use Rattle.joiner.specs.Pairs.{IsBest, IsGreatest, path_at, place_of}
use Rattle.joiner.specs.declared.pair.Pair.{Pair}
use Rattle.label.specs.declared.label.Label.{Label}
use Rattle.strip_model.specs.Orbit.{Orbit}
use Rattle.strip_model.specs.Plan.{gain_of}
use Rattle.strip_model.specs.Starts.{Root, earliest}
use Rattle.closer.proofs.joining.joint_of.Goals as goal

pub returns-in_default : goal.returns-in_default
returns-in_default g c =
    let floor : ℕ = gain_of c.args.core.now.instance c.args.core.now.state.incumbent in
    let fs : List Label = c.in_ok-forward.forward.items in
    let bs : List Label = c.in_ok-backward.backward.items in
    HasNoBetterJoin-none c.args.core.now fs bs c.in_ok-forward.ensures.all c.in_ok-backward.ensures.all
    (subst (λ (answer : Option Pair). IsBest c.args.core.now.instance fs bs floor answer) c.in_default.is
    (IsBest-same c.args.core.now c.args.core.now.instance c.deref.result.now fs c.deref-2.result.now bs floor c.in_ok-pair.field-0 refl c.deref.ensures.value
    c.deref-2.ensures.value refl c.in_ok-pair.ensures))

pub plan_of-requires : goal.plan_of-requires
plan_of-requires g c =
    let floor : ℕ = gain_of c.args.core.now.instance c.args.core.now.state.incumbent in
    let fs : List Label = c.in_ok-forward.forward.items in
    let bs : List Label = c.in_ok-backward.backward.items in
    let greatest : IsGreatest c.args.core.now.instance fs bs floor c.in-Some.pair =
    subst (λ (answer : Option Pair). IsBest c.args.core.now.instance fs bs floor answer) c.in-Some.is
    (IsBest-same c.args.core.now c.args.core.now.instance c.deref.result.now fs c.deref-2.result.now bs floor c.in_ok-pair.field-0 refl c.deref.ensures.value
    c.deref-2.ensures.value refl c.in_ok-pair.ensures) in
    let order : c.deref-5.result.now ≡ path_at fs (place_of c.in-Some.pair.forward) ++ reverse (path_at bs (place_of c.in-Some.pair.backward)) =
    c.deref-5.ensures.value
    ∙ c.in_ok-order.ensures
    ∙ ap (λ (ls : List Label). path_at ls (place_of c.in-Some.pair.forward) ++ reverse (path_at c.deref-4.result.now (place_of c.in-Some.pair.backward))) c.deref-3.ensures.value
    ∙ ap (λ (ls : List Label). path_at fs (place_of c.in-Some.pair.forward) ++ reverse (path_at ls (place_of c.in-Some.pair.backward))) c.deref-4.ensures.value in
    IsInTime-joins c.args.core.now.instance c.instance.result.now (path_at fs (place_of c.in-Some.pair.forward))
    (path_at bs (place_of c.in-Some.pair.backward)) c.deref-5.result.now c.instance.ensures order greatest.pair.joins

pub returns : goal.returns
returns g c =
    let floor : ℕ = gain_of c.args.core.now.instance c.args.core.now.state.incumbent in
    let fs : List Label = c.in_ok-forward.forward.items in
    let bs : List Label = c.in_ok-backward.backward.items in
    let greatest : IsGreatest c.args.core.now.instance fs bs floor c.in-Some.pair =
    subst (λ (answer : Option Pair). IsBest c.args.core.now.instance fs bs floor answer) c.in-Some.is
    (IsBest-same c.args.core.now c.args.core.now.instance c.deref.result.now fs c.deref-2.result.now bs floor c.in_ok-pair.field-0 refl c.deref.ensures.value
    c.deref-2.ensures.value refl c.in_ok-pair.ensures) in
    let order : c.deref-5.result.now ≡ path_at fs (place_of c.in-Some.pair.forward) ++ reverse (path_at bs (place_of c.in-Some.pair.backward)) =
    c.deref-5.ensures.value
    ∙ c.in_ok-order.ensures
    ∙ ap (λ (ls : List Label). path_at ls (place_of c.in-Some.pair.forward) ++ reverse (path_at c.deref-4.result.now (place_of c.in-Some.pair.backward))) c.deref-3.ensures.value
    ∙ ap (λ (ls : List Label). path_at fs (place_of c.in-Some.pair.forward) ++ reverse (path_at ls (place_of c.in-Some.pair.backward))) c.deref-4.ensures.value in
    IsJoint-greatest c.args.core.now fs bs c.in_ok-forward.ensures.all c.in_ok-backward.ensures.all c.in-Some.pair
    (record { plan = c.in_ok-plan.plan; gain = c.in-Some.pair.gain }) greatest
    (c.in_ok-plan.ensures
    ∙ ap (λ (I : Orbit). earliest I Root c.deref-5.result.now) c.instance.ensures
    ∙ ap (λ (xs : List ℕ). earliest c.args.core.now.instance Root xs) order)
    refl
