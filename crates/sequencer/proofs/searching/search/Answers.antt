use Rattle.std.proofs.Common.{◌≡◌, ap₂, subst, ◌∙◌}
use Rattle.std.proofs.lemmas.Result.{IfOk-weaker}
use Rattle.closer.specs.Finishing.{Finishes}
use Rattle.closer.specs.declared.outcome.Outcome.{Outcome}
use Rattle.label_core.specs.CoreState.{opening}
use Rattle.label_core.specs.Machine.{Machine}
use Rattle.label_core.specs.Traces.{trace_run, last_state, IsLegalRun}
use Rattle.sequencer.proofs.SharedSearched.{IsSearched-finished}
use Rattle.sequencer.specs.Searching.{searched}
use Rattle.sequencer.specs.SharedSearching.{IsSearched, traced}
use Rattle.strip_model.specs.Orbit.{Orbit}
use Rattle.strip_model.specs.Side.{Face}
use Rattle.sequencer.proofs.searching.search.Goals as goal

pub returns : goal.returns
returns g c =
    let b = c.args.board in
    let trace = c.run_all-trace.result in
    let here = c.side-forward.result.now in
    let of_board = c.instance-instance.ensures.value in
    let side = c.side-forward.ensures in
    let made = c.in_ok-core.ensures in
    let at_instance : IsLegalRun b.instance here.cut opening (trace_run b.instance trace) =
    subst (λ (I : Orbit). IsLegalRun I here.cut opening (trace_run I trace)) of_board made.legal in
    let legal : IsLegalRun b.instance b.forward.side.cut opening (trace_run b.instance trace) =
    subst (λ (S : Face). IsLegalRun b.instance S.cut opening (trace_run b.instance trace)) side at_instance in
    let there : Machine = record { instance = c.instance-instance.result.now; cut = here.cut; state = last_state c.instance-instance.result.now opening (trace_run c.instance-instance.result.now trace) } in
    let moved : there ≡ traced b trace = ap₂ (λ (I : Orbit) (S : Face). searched I S.cut (last_state I opening (trace_run I trace))) of_board side in
    let core : c.in_ok-core.core ≡ traced b trace = made.last ∙ moved in
    IfOk-weaker c.finish_with.result (λ (outcome : Outcome). Finishes c.args.budget c.in_ok-core.core outcome)
    (λ (outcome : Outcome). IsSearched b c.args.pass c.args.budget outcome)
    (λ outcome finishes.
    IsSearched-finished b c.args.pass trace c.run_all-trace.ensures c.args.budget outcome legal
    (subst (λ (m : Machine). Finishes c.args.budget m outcome) core finishes))
    c.finish_with.ensures
