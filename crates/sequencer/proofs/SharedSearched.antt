-- What a search by workers on a board comes to, from what its parts say.
use Rattle.std.proofs.Common.{◌≡◌, ℕ, ◌≤◌, List, ◌++◌, inr, refl, ap, arith, Contains}
use Rattle.board.specs.Passes.{BoardName, BoardPass, HalfPass, gain, lock_in}
use Rattle.board.specs.Sharing.{AreLocksClosed}
use Rattle.bucket.specs.Buckets.{Bin}
use Rattle.bucket.specs.Histories.{Inserts}
use Rattle.bucket.specs.declared.trace.Trace.{Trace}
use Rattle.closer.specs.Finishing.{Finishes}
use Rattle.closer.specs.declared.outcome.Outcome.{Outcome}
use Rattle.closer.specs.declared.outcome.Outcome.TheVariants.{Optimal, Open}
use Rattle.label_core.proofs.ClosedRuns.{IsOrderly-opening}
use Rattle.label_core.proofs.Orderly.{IsOrderly, Grows}
use Rattle.label_core.proofs.Steps.{IsOrderly-after}
use Rattle.label_core.proofs.Cores.{IsOrderly-reached}
use Rattle.label_core.specs.CoreState.{CoreState, IsListed, opening}
use Rattle.label_core.specs.Events.{Event, InsertLabel, Publish, after}
use Rattle.label_core.specs.Machine.{Machine, IsReached}
use Rattle.label_core.specs.Traces.{events_of_side, trace_run, last_state, IsLegalRun}
use Rattle.pool.specs.Growth.{HalfGrows}
use Rattle.pool.specs.Running.{IsRun}
use Rattle.admission.proofs.CarefulSteps.{IsRun-careful}
use Rattle.admission.specs.CarefulRuns.{GoesCarefully}
use Rattle.sequencer.proofs.KeptLabels.{IsOneOf, listed_grows, grows_run, inserted_listed}
use Rattle.sequencer.proofs.TracedLabels.{kept_in, contains_prefix, inserted_by_side, one_left, one_right}
use Rattle.sequencer.specs.Finding.{last_of, IsFoundFrom}
use Rattle.sequencer.specs.SharedSearching.{IsSearched, IsInsertionSeen, traced}
use Rattle.strip_model.specs.Orbit.{Orbit}
use Rattle.strip_model.specs.Plan.{gain_of}
use Rattle.strip_model.specs.declared.end.End.{End}
use Rattle.strip_model.specs.declared.end.End.TheVariants.{Forward, Backward}

-- the one thread's run to the end
pub run_to_end : (budget : ℕ) (m : Machine) (outcome : Outcome) → Finishes budget m outcome → GoesCarefully budget m (last_of outcome)
run_to_end budget m (Optimal t) h = h.0.run
run_to_end budget m (Open t) h = h.0.run

-- along it labels stay, and the plan gains no less
pub grows_to_end : (budget : ℕ) (m t : Machine) → IsReached m → GoesCarefully budget m t → Grows m.instance m.state t.state
grows_to_end budget m t reached run =
    grows_run m.instance m.cut m.state run.0 t.state (IsOrderly-reached m reached) (IsRun-careful budget m run.0 t run.1)

-- the insertions of a half's trace are among the events of the run
module _ (b : BoardName) (pass : BoardPass) (trace : Trace) (run : IsRun b pass trace) where
  abbrev plan_gain : ℕ
  plan_gain = gain_of b.instance trace.plan.plan

  -- what a half had seen inserted
  inserted_in : (e : End) (old new : HalfPass) (k id : ℕ) (path : List ℕ) (bins : List Bin) → HalfGrows old new → AreLocksClosed new.locks bins
      → Contains (lock_in old k).seen (Inserts id path) → IsOneOf (InsertLabel e path) (events_of_side b.instance e plan_gain bins)
  inserted_in e old new k id path bins grows closed seen =
      let now : Contains (lock_in new k).seen (Inserts id path) =
      contains_prefix (lock_in old k).seen (lock_in new k).seen (Inserts id path) (grows.locks k).seen seen in
      let kept = kept_in new.locks bins k (Inserts id path) closed now in
      inserted_by_side b.instance e plan_gain bins kept.bin id path kept.there kept.has

  among_events : (e : End) (path : List ℕ) → IsInsertionSeen pass e path → IsOneOf (InsertLabel e path) (trace_run b.instance trace)
  unfolding trace_run
  among_events Forward path (k, id, seen) =
      inr (one_left (InsertLabel Forward path) (events_of_side b.instance Forward plan_gain trace.forward.items)
      (events_of_side b.instance Backward plan_gain trace.backward.items)
      (inserted_in Forward pass.forward run.last.forward k id path trace.forward.items run.grows.forward run.closed.forward seen))
  among_events Backward path (k, id, seen) =
      inr (one_right (InsertLabel Backward path) (events_of_side b.instance Forward plan_gain trace.forward.items)
      (events_of_side b.instance Backward plan_gain trace.backward.items)
      (inserted_in Backward pass.backward run.last.backward k id path trace.backward.items run.grows.backward run.closed.backward seen))

  -- the plan of the last state gains no less than the trace's
  plan_kept : (cut : ℕ) → IsLegalRun b.instance cut opening (trace_run b.instance trace)
      → plan_gain ≤ gain_of b.instance (last_state b.instance opening (trace_run b.instance trace)).incumbent
  unfolding trace_run
  plan_kept cut legal =
      let rest : List Event = events_of_side b.instance Forward plan_gain trace.forward.items
      ++ events_of_side b.instance Backward plan_gain trace.backward.items in
      let first : CoreState = after b.instance opening (Publish trace.plan.plan) in
      let orderly : IsOrderly b.instance cut first =
      IsOrderly-after b.instance cut opening (Publish trace.plan.plan) legal.0 (IsOrderly-opening b.instance cut) in
      let grows : Grows b.instance first (last_state b.instance first rest) =
      grows_run b.instance cut first rest (last_state b.instance first rest) orderly legal.1 in
      grows.gain

  -- it gains no less than what the pass had offered
  plan_offered : gain pass.plan ≤ plan_gain
  plan_offered =
      let of_trace : gain trace.plan ≡ plan_gain = ap (λ (I : Orbit). gain_of I trace.plan.plan) run.closed.trace_of.plan in
      let same : gain trace.plan ≡ gain run.last.plan = ap gain run.closed.plan in
      let more = run.grows.plan in
      omega (arith, of_trace, same, more)

  module _ (budget : ℕ) (outcome : Outcome) (legal : IsLegalRun b.instance b.forward.side.cut opening (trace_run b.instance trace))
      (finishes : Finishes budget (traced b trace) outcome) where
    reached : IsReached (traced b trace)
    reached = (trace_run b.instance trace, legal)

    grows : Grows b.instance (traced b trace).state (last_of outcome).state
    grows = grows_to_end budget (traced b trace) (last_of outcome) reached (run_to_end budget (traced b trace) outcome finishes)

    kept : (e : End) (path : List ℕ) → IsInsertionSeen pass e path → IsListed (last_of outcome).state e path
    kept e path seen =
        let listed : IsListed (traced b trace).state e path =
        inserted_listed b.instance b.forward.side.cut opening (trace_run b.instance trace) (traced b trace).state e path
        (IsOrderly-opening b.instance b.forward.side.cut) legal (among_events e path seen) in
        listed_grows b.instance (traced b trace).state (last_of outcome).state e path grows listed

    pub IsSearched-finished : IsSearched b pass budget outcome
    IsSearched-finished = record {
      trace = trace;
      run = run;
      legal = legal;
      finishes = finishes;
      kept = kept;
      gains = (let a = plan_offered in let c = plan_kept b.forward.side.cut legal in let d = grows.gain in omega arith);
    }

-- so one thread went on from where a legal run leads
pub IsFoundFrom-searched : (b : BoardName) (pass : BoardPass) (budget : ℕ) (outcome : Outcome) → IsSearched b pass budget outcome
    → IsFoundFrom budget b.instance b.forward.side.cut outcome
IsFoundFrom-searched b pass budget outcome h = record {
  start = traced b h.trace;
  instance = refl;
  cut_is = refl;
  reached = (trace_run b.instance h.trace, h.legal);
  finishes = h.finishes;
}
