use Rattle.std.proofs.Common.{List, ℕ, arith}
use Rattle.admission.proofs.Contending.{HasContended-cut, told_at}
use Rattle.admission.proofs.Fading.{Dies-cut, state_cut}
use Rattle.antichain.specs.Antichains.{IsDominator, NoneDominates}
use Rattle.label_core.specs.Events.{CutLabel}
use Rattle.label_core.specs.Machine.{Can}
use Rattle.strip_model.specs.Side.{Face}
use Rattle.admission.proofs.Interrupted.{on_err_always, Thins-same}
use Rattle.admission.specs.Contests.{last_at}
use Rattle.admission.proofs.contests.weigh.Goals as goal

pub returns-then-outline-gain-clause-contended : goal.returns-then-outline-gain-clause-contended
returns-then-outline-gain-clause-contended c =
    let can : Can c.args.core.now (CutLabel c.args.id) =
    record { live = c.requires.live; bounded = omega (arith, c.requires.outline.bound, c.if-outline-gain.true, c.gain.ensures.value) } in
    HasContended-cut c.args.core.now c.cut.new.self c.args.id c.args.antichain.now.members c.gain.ensures.reached can c.in_ok-cut.ensures.stepped
    c.requires.antichain

pub returns-then-outline-gain-clause-lives : goal.returns-then-outline-gain-clause-lives
returns-then-outline-gain-clause-lives c =
    let can : Can c.args.core.now (CutLabel c.args.id) =
    record { live = c.requires.live; bounded = omega (arith, c.requires.outline.bound, c.if-outline-gain.true, c.gain.ensures.value) } in
    (Dies-cut c.args.core.now c.cut.new.self c.args.id can c.in_ok-cut.ensures.stepped).dead

pub returns-then-outline-gain-clause-cut : goal.returns-then-outline-gain-clause-cut
returns-then-outline-gain-clause-cut c = λ low.
    state_cut c.args.core.now c.cut.new.self c.args.id c.requires.live c.in_ok-cut.ensures.stepped

pub retire_new-requires-clause-dominator : goal.retire_new-requires-clause-dominator
retire_new-requires-clause-dominator c = (
  c.args.antichain.now.members,
  c.requires.antichain,
  told_at (λ (S : Face) (path_at : ℕ → List ℕ) (path : List ℕ). IsDominator S.instance path_at c.args.antichain.now.members path c.in-Some.by) c.args.core.now
      c.args.id c.args.antichain.now.members c.side.result.now c.args.outline c.gain.ensures.reached c.requires.live c.requires.outline c.requires.antichain
      c.side.ensures c.in-Some.ensures,
)

pub join-requires-clause-unbeaten : goal.join-requires-clause-unbeaten
join-requires-clause-unbeaten c =
    told_at (λ (S : Face) (path_at : ℕ → List ℕ) (path : List ℕ). NoneDominates S.instance path_at c.args.antichain.now.members path) c.args.core.now c.args.id
    c.args.antichain.now.members c.side.result.now c.args.outline c.gain.ensures.reached c.requires.live c.requires.outline c.requires.antichain
    c.side.ensures c.in-None.ensures

pub returns-in_err-cut-clause-refused : goal.returns-in_err-cut-clause-refused
returns-in_err-cut-clause-refused c =
    on_err_always c.from_residual.result
    (Thins-same c.args.core.now c.cut.new.self c.args.id.end (last_at c.args.core.now c.args.id) c.in_err-cut.ensures.unchanged)

pub returns-in_err-retire_new-in-Some-clause-refused : goal.returns-in_err-retire_new-in-Some-clause-refused
returns-in_err-retire_new-in-Some-clause-refused c =
    on_err_always c.from_residual-in_err-retire_new-in-Some.result
    (Thins-same c.args.core.now c.retire_new.new.core c.args.id.end (last_at c.args.core.now c.args.id) c.in_err-retire_new-in-Some.ensures.unchanged)

pub returns-in_err-join-in-None-clause-refused : goal.returns-in_err-join-in-None-clause-refused
returns-in_err-join-in-None-clause-refused c = on_err_always c.from_residual-in_err-join-in-None.result c.in_err-join-in-None.ensures.refused
