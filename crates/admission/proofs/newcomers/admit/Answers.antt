use Rattle.admission.proofs.Contending.{lives_entered, outline_entered, antichain_entered, low_entered, run_admitted, admits_admitted, antichain_admitted}
use Rattle.std.proofs.Common.{◌≡◌, sym, ◌∙◌, ap, subst, inl, inr}
use Rattle.bucket.specs.declared.id.Id.{Id}
use Rattle.admission.proofs.Outlined.{brief_at, outline_at}
use Rattle.label_core.specs.CoreState.{state_of}
use Rattle.label_list.specs.declared.state.State.TheVariants.{Cut}
use Rattle.strip_model.specs.Side.{face_of}
use Rattle.strip_model.specs.declared.end.End.{End}
use Rattle.admission.proofs.CarefulSteps.{GoesCarefully-refl, GoesCarefully-inserted}
use Rattle.admission.proofs.Interrupted.{on_err_always, Admits-thins}
use Rattle.admission.specs.CarefulRuns.{GoesCarefully}
use Rattle.label_core.specs.Machine.{Machine}
use Rattle.admission.proofs.newcomers.admit.Goals as goal

pub outline_of-outline-requires : goal.outline_of-outline-requires
outline_of-outline-requires c =
    let same : c.side.result.now ≡ face_of c.args.core.now.instance c.args.core.now.cut c.args.label.end =
    c.side.ensures ∙ ap (λ (e : End). face_of c.args.core.now.instance c.args.core.now.cut e) c.end.ensures in
    brief_at c.side.result.now (face_of c.args.core.now.instance c.args.core.now.cut c.args.label.end) c.brief.result c.args.label.path.items same
    c.requires.label.path (c.brief.ensures (face_of c.args.core.now.instance c.args.core.now.cut c.args.label.end) c.requires.label)

pub weigh-requires-clause-live : goal.weigh-requires-clause-live
weigh-requires-clause-live c =
    lives_entered c.args.core.now c.insert.new.self c.args.label.end c.args.label.path.items c.in_ok-id.id c.in_ok-id.ensures.name c.gain.ensures.reached
    c.in_ok-id.ensures.stepped

pub weigh-requires-clause-outline : goal.weigh-requires-clause-outline
weigh-requires-clause-outline c =
    let same : c.side.result.now ≡ face_of c.args.core.now.instance c.args.core.now.cut c.args.label.end =
    c.side.ensures ∙ ap (λ (e : End). face_of c.args.core.now.instance c.args.core.now.cut e) c.end.ensures in
    outline_entered c.args.core.now c.insert.new.self c.args.label.end c.args.label.path.items c.in_ok-id.id c.in_ok-id.ensures.name c.gain.ensures.reached
    c.in_ok-id.ensures.stepped c.side.result.now c.outline_of-outline.result
    (same ∙ ap (λ (i : Id). face_of c.args.core.now.instance c.args.core.now.cut i.end) (sym c.in_ok-id.ensures.name))
    (outline_at c.side.result.now (face_of c.args.core.now.instance c.args.core.now.cut c.args.label.end) c.brief.result c.outline_of-outline.result
    c.args.label.path.items same c.requires.label.path
    (c.brief.ensures (face_of c.args.core.now.instance c.args.core.now.cut c.args.label.end) c.requires.label) c.outline_of-outline.ensures)

pub weigh-requires-clause-antichain : goal.weigh-requires-clause-antichain
weigh-requires-clause-antichain c =
    antichain_entered c.args.core.now c.insert.new.self c.args.label.end c.args.label.path.items c.in_ok-id.id c.in_ok-id.ensures.name c.gain.ensures.reached
    c.in_ok-id.ensures.stepped c.args.antichain.now.members c.requires.antichain

pub returns-clause-run : goal.returns-clause-run
returns-clause-run c =
    run_admitted c.args.core.now c.insert.new.self c.args.label.end c.args.label.path.items c.in_ok-id.id c.in_ok-id.ensures.name c.gain.ensures.reached
    c.in_ok-id.ensures.stepped c.weigh.new.core c.weigh.new.antichain.members c.in_ok-name.ensures.contended c.requires.can

pub returns-clause-admits : goal.returns-clause-admits
returns-clause-admits c =
    admits_admitted c.args.core.now c.insert.new.self c.args.label.end c.args.label.path.items c.in_ok-id.id c.in_ok-id.ensures.name c.gain.ensures.reached
    c.in_ok-id.ensures.stepped c.weigh.new.core c.weigh.new.antichain.members c.in_ok-name.ensures.contended

pub returns-clause-antichain : goal.returns-clause-antichain
returns-clause-antichain c =
    antichain_admitted c.args.core.now c.insert.new.self c.args.label.end c.args.label.path.items c.in_ok-id.id c.in_ok-id.ensures.name c.gain.ensures.reached
    c.in_ok-id.ensures.stepped c.weigh.new.core c.weigh.new.antichain.members c.in_ok-name.ensures.contended

pub returns-clause-cut : goal.returns-clause-cut
returns-clause-cut c = λ low.
    subst (λ (x : Id). state_of c.weigh.new.core.state x ≡ Cut) c.in_ok-id.ensures.name
    (c.in_ok-name.ensures.cut
    (low_entered c.args.core.now c.insert.new.self c.args.label.end c.args.label.path.items c.in_ok-id.id c.in_ok-id.ensures.name c.gain.ensures.reached
    c.in_ok-id.ensures.stepped low))

pub returns-in_err-id-clause-run : goal.returns-in_err-id-clause-run
returns-in_err-id-clause-run c = λ budget care.
    subst (λ (m : Machine). GoesCarefully budget c.args.core.now m) (sym c.in_err-id.ensures.unchanged) (GoesCarefully-refl budget c.args.core.now)

pub returns-in_err-id-clause-plan : goal.returns-in_err-id-clause-plan
returns-in_err-id-clause-plan c = ap (λ (m : Machine). m.state.incumbent) c.in_err-id.ensures.unchanged

pub returns-in_err-id-clause-refused : goal.returns-in_err-id-clause-refused
returns-in_err-id-clause-refused c = on_err_always c.from_residual.result (inl c.in_err-id.ensures.unchanged)

pub returns-in_err-name-clause-run : goal.returns-in_err-name-clause-run
returns-in_err-name-clause-run c = λ budget care.
    GoesCarefully-inserted budget c.args.core.now c.insert.new.self c.weigh.new.core c.args.label.end c.args.label.path.items c.requires.can care
    c.in_ok-id.ensures.stepped c.in_err-name.ensures.refused.quiet

pub returns-in_err-name-clause-plan : goal.returns-in_err-name-clause-plan
returns-in_err-name-clause-plan c =
    c.in_err-name.ensures.refused.plan ∙ ap (λ (m : Machine). m.state.incumbent) c.in_ok-id.ensures.stepped

pub returns-in_err-name-clause-refused : goal.returns-in_err-name-clause-refused
returns-in_err-name-clause-refused c =
    on_err_always c.from_residual-in_err-name.result
    (inr
    (Admits-thins c.args.core.now c.insert.new.self c.weigh.new.core c.args.label.end c.args.label.path.items c.in_ok-id.id c.in_ok-id.ensures.name
    c.gain.ensures.reached c.in_ok-id.ensures.stepped c.in_err-name.ensures.refused))
