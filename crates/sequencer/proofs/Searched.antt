-- What a search has come to where it ends, from what its parts say.
use Rattle.std.proofs.Common.{◌≡◌, ℕ, ◌<◌, ◌≤◌, Option, Some, None, IfSome, List, [], refl, sym, ◌∙◌, ap, ap₂, subst, arith}
use Rattle.command_line.specs.Ranges.{AreInRange}
use Rattle.closer.specs.Finishing.{IsAtRest, IsOpen, EndsAt, IsSpent}
use Rattle.closer.specs.declared.outcome.Outcome.{Outcome}
use Rattle.label_core.specs.CoreState.{opening}
use Rattle.label_core.specs.Events.{Publish}
use Rattle.label_core.specs.LogOf.{IsLogOf}
use Rattle.label_core.specs.Machine.{Machine, Can, stepped, IsReached, count_of}
use Rattle.label_core.proofs.Cores.{IsOrderly-reached}
use Rattle.admission.proofs.CarefulSteps.{GoesCarefully-trans, GoesQuietly-publish, IsReached-careful, instance-careful, cut-careful}
use Rattle.admission.specs.CarefulRuns.{GoesCarefully, GoesQuietly}
use Rattle.proof_log.proofs.Optimum.{optimal}
use Rattle.proof_log.specs.AnswerText.{label_count}
use Rattle.proof_log.specs.Rules.{IsProof}
use Rattle.proof_log.specs.declared.limits.TheConstants.{MAX_LABELS}
use Rattle.proof_log.specs.declared.log.Log.{Log}
use Rattle.sequencer.proofs.Budgets.{within_budget}
use Rattle.sequencer.proofs.LoggedLabels.{HasNoNeedless-rest, label_count-is}
use Rattle.sequencer.proofs.LogsInText.{IsLogInText-proof}
use Rattle.sequencer.proofs.OpenStates.{count-below}
use Rattle.sequencer.proofs.SharedSearched.{run_to_end}
use Rattle.sequencer.specs.Finding.{last_of, IsBegun, IsFoundAlone, IsFoundFrom, IsFound}
use Rattle.sequencer.specs.Searching.{HasNoNeedless, IsProved, IsUnsettled, cut_for, searched}
use Rattle.strip_model.proofs.Gains.{gain_in-nil}
use Rattle.strip_model.proofs.Horizons.{horizon_of-le}
use Rattle.strip_model.specs.IsInstance.{IsInstance}
use Rattle.strip_model.specs.Orbit.{Orbit}
use Rattle.strip_model.specs.PathCount.{path_count_of}
use Rattle.strip_model.specs.Plan.{Feasible, gain_of}
use Rattle.strip_model.specs.Starts.{HasEarliestStarts}
use Rattle.strip_model.specs.declared.acquisition.Acquisition.{Acquisition}
use Rattle.strip_model.specs.declared.limits.TheConstants.{MAX_HORIZON}

-- ---- the first plan

-- a feasible plan may be published at first
pub can_begin : (J : Orbit) (cut : ℕ) (m : Machine) (plan : List Acquisition) → m ≡ searched J cut opening → Feasible J plan → Can m (Publish plan)
can_begin J cut m plan is feasible =
    let least : gain_of J [] ≤ gain_of J plan = omega (arith, gain_in-nil J) in
    let here : Can (searched J cut opening) (Publish plan) = record { feasible = feasible; gains = least } in
    subst (λ (k : Machine). Can k (Publish plan)) (sym is) here

-- what comes then has begun
pub IsBegun-published : (J : Orbit) (cut : ℕ) (m t : Machine) (plan : List Acquisition) → m ≡ searched J cut opening → Feasible J plan
    → t ≡ stepped m (Publish plan) → IsBegun J cut t
IsBegun-published J cut m t plan is feasible step =
    let quiet : GoesQuietly m t = GoesQuietly-publish m t plan (can_begin J cut m plan is feasible) step in
    record {
      instance = ap (λ (k : Machine). k.instance) step ∙ ap (λ (k : Machine). k.instance) is;
      cut_is = ap (λ (k : Machine). k.cut) step ∙ ap (λ (k : Machine). k.cut) is;
      quiet = subst (λ (k : Machine). GoesQuietly k t) is quiet;
    }

-- ---- who searched

-- the run of the one thread that did all
pub run_alone : (budget : ℕ) (J : Orbit) (cut : ℕ) (outcome : Outcome) → IsFoundAlone budget J cut outcome
    → GoesCarefully budget (searched J cut opening) (last_of outcome)
run_alone budget J cut outcome h =
    GoesCarefully-trans budget (searched J cut opening) h.start (last_of outcome) (h.begun.quiet budget) (run_to_end budget h.start outcome h.finishes)

pub IsFoundFrom-alone : (budget : ℕ) (J : Orbit) (cut : ℕ) (outcome : Outcome) → IsFoundAlone budget J cut outcome → IsFoundFrom budget J cut outcome
IsFoundFrom-alone budget J cut outcome h = record {
  start = h.start;
  instance = h.begun.instance;
  cut_is = h.begun.cut_is;
  reached = IsReached-careful budget (searched J cut opening) h.start ([], refl) (h.begun.quiet budget);
  finishes = h.finishes;
}

-- one thread keeps its labels within the budget, so a text can tell them
pub IsFound-alone : (workers budget : ℕ) (J : Orbit) (cut : ℕ) (outcome : Outcome) → budget ≤ MAX_LABELS → IsFoundAlone budget J cut outcome
    → IsFound workers budget J cut outcome
IsFound-alone workers budget J cut outcome few h =
    let within : count_of (last_of outcome).state ≤ budget = within_budget budget J cut (last_of outcome) (run_alone budget J cut outcome h) in
    record { found = IsFoundFrom-alone budget J cut outcome h; in_text = omega (arith, few, within); alone = λ none. h }

-- what workers leave is looked at
pub IsFound-counted : (workers budget : ℕ) (J : Orbit) (cut : ℕ) (outcome : Outcome) → 1 ≤ workers → count_of (last_of outcome).state ≤ MAX_LABELS
    → IsFoundFrom budget J cut outcome → IsFound workers budget J cut outcome
IsFound-counted workers budget J cut outcome some few h = record { found = h; in_text = few; alone = λ none. absurd (omega (arith, some, none)) }

-- the plan with which a search has ended is feasible
pub feasible_found : (budget : ℕ) (J : Orbit) (cut : ℕ) (outcome : Outcome) → IsFoundFrom budget J cut outcome
    → Feasible J (last_of outcome).state.incumbent
feasible_found budget J cut outcome h =
    let t = last_of outcome in
    let run : GoesCarefully budget h.start t = run_to_end budget h.start outcome h.finishes in
    let feasible = (IsOrderly-reached t (IsReached-careful budget h.start t h.reached run)).feasible in
    subst (λ (I : Orbit). Feasible I t.state.incumbent) (instance-careful budget h.start run.0 t run.1 ∙ h.instance) feasible

-- ---- the end

-- the cut is within the greatest horizon
cut_within : (J : Orbit) (cut : Option ℕ) → IsInstance J → IfSome cut (λ tick. tick ≤ MAX_HORIZON) → cut_for J cut ≤ MAX_HORIZON
cut_within J None inst given = omega (arith, horizon_of-le J inst)
cut_within J (Some tick) inst given = given

module _ (workers budget : ℕ) (cut : Option ℕ) (J : Orbit) (outcome : Outcome) (t : Machine) (range : AreInRange budget cut)
    (h : IsFound workers budget J (cut_for J cut) outcome) (last : last_of outcome ≡ t) (ends : EndsAt budget h.found.start t) where
  reached : IsReached t
  reached = IsReached-careful budget h.found.start t h.found.reached ends.run

  instance_is : t.instance ≡ J
  instance_is = instance-careful budget h.found.start ends.run.0 t ends.run.1 ∙ h.found.instance

  cut_is : t.cut ≡ cut_for J cut
  cut_is = cut-careful budget h.found.start ends.run.0 t ends.run.1 ∙ h.found.cut_is

  in_text : count_of t.state ≤ MAX_LABELS
  in_text = subst (λ (m : Machine). count_of m.state ≤ MAX_LABELS) last h.in_text

  careful : workers ≡ 0 → GoesCarefully budget (searched J (cut_for J cut) opening) t
  careful none =
      subst (λ (m : Machine). GoesCarefully budget (searched J (cut_for J cut) opening) m) last
      (run_alone budget J (cut_for J cut) outcome (h.alone none))

  within : workers ≡ 0 → count_of t.state ≤ budget
  within none = within_budget budget J (cut_for J cut) t (careful none)

  -- with nothing left open the log is a proof
  pub IsProved-end : (log : Log) → IsInstance J → IsLogOf t.instance t.cut t.state log → IsProof t.instance log → IsProved workers budget cut J log
  IsProved-end log inst is proof_there =
      let proof : IsProof J log = subst (λ (I : Orbit). IsProof I log) instance_is proof_there in
      let cut_there : log.cut ≡ cut_for J cut = is.cut ∙ cut_is in
      let same_count : label_count log ≡ count_of t.state = label_count-is t.instance t.cut t.state log is in
      let starts : HasEarliestStarts t.instance log.plan.items =
      subst (λ (plan : List Acquisition). HasEarliestStarts t.instance plan) (sym is.plan) ends.rest.earliest in
      record {
        cut_is = cut_there;
        proof = proof;
        optimal = optimal J log inst proof;
        earliest = subst (λ (I : Orbit). HasEarliestStarts I log.plan.items) instance_is starts;
        gain = proof.gain;
        needed = subst (λ (I : Orbit). HasNoNeedless I log) instance_is (HasNoNeedless-rest t log reached is ends.rest);
        within = λ none. let few = within none in omega (arith, few, same_count);
        in_text =
            IsLogInText-proof J log inst proof (subst (λ (n : ℕ). n ≤ MAX_HORIZON) (sym cut_there) (cut_within J cut inst range.tick))
            (let few = in_text in omega (arith, few, same_count));
      }

  same : t ≡ searched J (cut_for J cut) t.state
  same = ap₂ (λ (I : Orbit) (H : ℕ). searched I H t.state) instance_is cut_is

  -- and with the budget spent the search is unsettled
  pub IsUnsettled-end : (plan : List Acquisition) (labels : ℕ) → plan ≡ t.state.incumbent → labels ≡ count_of t.state → IsSpent budget t
      → IsUnsettled workers budget cut J plan labels
  IsUnsettled-end plan labels is labels_is spent =
      let feasible : Feasible t.instance t.state.incumbent = (IsOrderly-reached t reached).feasible in
      let of_J : Feasible J t.state.incumbent = subst (λ (I : Orbit). Feasible I t.state.incumbent) instance_is feasible in
      let starts : HasEarliestStarts J t.state.incumbent =
      subst (λ (I : Orbit). HasEarliestStarts I t.state.incumbent) instance_is ends.rest.earliest in
      let below : count_of t.state < path_count_of t.instance t.cut = count-below t reached spent.missing in
      let at_J : count_of t.state < path_count_of J t.cut = subst (λ (I : Orbit). count_of t.state < path_count_of I t.cut) instance_is below in
      let at_cut : count_of t.state < path_count_of J (cut_for J cut) = subst (λ (H : ℕ). count_of t.state < path_count_of J H) cut_is at_J in
      let enough = spent.spent in
      record {
        feasible = subst (λ (p : List Acquisition). Feasible J p) (sym is) of_J;
        earliest = subst (λ (p : List Acquisition). HasEarliestStarts J p) (sym is) starts;
        last = t.state;
        reached = subst (λ (k : Machine). IsReached k) same reached;
        incumbent = sym is;
        count = sym labels_is;
        spent = omega (arith, enough, labels_is);
        in_text = (let few = in_text in omega (arith, few, labels_is));
        rest = subst (λ (k : Machine). IsAtRest k) same ends.rest;
        missing = subst (λ (k : Machine). IsOpen k) same spent.missing;
        below = subst (λ (n : ℕ). n < path_count_of J (cut_for J cut)) (sym labels_is) at_cut;
        as_many = λ none. let few = within none in omega (arith, enough, few, labels_is);
        careful =
            λ none. subst (λ (k : Machine). GoesCarefully budget (searched J (cut_for J cut) opening) k) same (careful none);
      }

  pub gain_is : (plan : List Acquisition) (gain : ℕ) → plan ≡ t.state.incumbent → gain ≡ gain_of t.instance t.state.incumbent → gain ≡ gain_of J plan
  gain_is plan gain is gain_there =
      gain_there ∙ ap₂ (λ (I : Orbit) (p : List Acquisition). gain_of I p) instance_is (sym is)
