use Rattle.std.proofs.Common.{◌≡◌, ◌⊎◌, ◌∙◌, List, ap, sym, subst, inl, inr}
use Rattle.std.proofs.lemmas.Result.{IfOk-weaker}
use Rattle.closer.specs.declared.outcome.Outcome.{Outcome}
use Rattle.closer.specs.declared.outcome.Outcome.TheVariants.{Optimal, Open}
use Rattle.label_core.specs.Machine.{Machine}
use Rattle.sequencer.proofs.Searched.{IsFound-alone, feasible_found}
use Rattle.sequencer.specs.Finding.{IsFound, IsFoundAlone, last_of}
use Rattle.strip_model.specs.Plan.{Feasible}
use Rattle.strip_model.specs.declared.acquisition.Acquisition.{Acquisition}
use Rattle.sequencer.proofs.finding.within_text.Goals.{in-Optimal, in-Optimal-2}
use Rattle.sequencer.proofs.finding.within_text.Goals as goal

-- the machine that the match gives is the last one
at_last : (outcome : Outcome) (m : Machine) → (outcome ≡ Optimal m) ⊎ (outcome ≡ Open m) → last_of outcome ≡ m
at_last outcome m (inl is) = ap last_of is
at_last outcome m (inr is) = ap last_of is

pub search_from-requires-clause-feasible : goal.search_from-requires-clause-feasible
search_from-requires-clause-feasible c =
    let t = c.args.task.now in
    let J = t.instance in
    let outcome = c.args.outcome in
    let found = feasible_found t.budget J t.forward.cut outcome c.requires.found in
    let plan = c.in_ok-plan.ensures.items ∙ c.plan.ensures.value in
    elim c.match-outcome.branch [
      | in-Optimal w ↦
          let last = at_last outcome w.in-Optimal.core w.in-Optimal.is in
          let same = plan ∙ ap (λ r. r.now.state.incumbent) w.core-is ∙ ap (λ (m : Machine). m.state.incumbent) (sym last) in
          subst (λ (p : List Acquisition). Feasible J p) (sym same) found
      | in-Optimal-2 w ↦
          let last = at_last outcome w.in-Optimal.core w.in-Optimal.is in
          let same = plan ∙ ap (λ r. r.now.state.incumbent) w.core-is ∙ ap (λ (m : Machine). m.state.incumbent) (sym last) in
          subst (λ (p : List Acquisition). Feasible J p) (sym same) found
    ]

pub returns : goal.returns
returns c = λ workers some.
    let t = c.args.task.now in
    IfOk-weaker c.search_from.result (λ (outcome : Outcome). IsFoundAlone t.budget t.instance t.forward.cut outcome)
    (λ (outcome : Outcome). IsFound workers t.budget t.instance t.forward.cut outcome)
    (λ outcome alone. IsFound-alone workers t.budget t.instance t.forward.cut outcome c.requires.ready.range.few alone) c.search_from.ensures
