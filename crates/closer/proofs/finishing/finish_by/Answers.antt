use Rattle.std.proofs.Common.{◌≡◌, ◌≤◌, refl, ◌∙◌}
use Rattle.std.proofs.lemmas.Result.{err_from_is_err_and}
use Rattle.closer.proofs.AfterFading.{IsSearching-replans}
use Rattle.closer.proofs.Finished.{instance-explored, EndsAt-swept, IsClosed-swept, still_spent, IsClosed-again, IsSpent-again}
use Rattle.label_core.specs.Machine.{count_of}
use Rattle.closer.proofs.finishing.finish_by.Goals as goal

pub returns-in_err-agenda : goal.returns-in_err-agenda
returns-in_err-agenda g c =
    let failed = err_from_is_err_and c.from_residual.result c.from_residual.ensures.1 in
    rw failed.1 tt

pub same-core : goal.same-core
same-core g c = refl

pub explore-requires-clause-searching : goal.explore-requires-clause-searching
explore-requires-clause-searching g c = c.in_ok-agenda.ensures.searching

pub explore-requires-clause-budget : goal.explore-requires-clause-budget
explore-requires-clause-budget g c = c.requires.budget

pub returns-in_err-whole : goal.returns-in_err-whole
returns-in_err-whole g c =
    let failed = err_from_is_err_and c.from_residual-in_err-whole.result c.from_residual-in_err-whole.ensures.1 in
    rw failed.1 tt

pub same-core-2 : goal.same-core-2
same-core-2 g c = refl

pub set_earliest-requires : goal.set_earliest-requires
set_earliest-requires g c =
    instance-explored c.args.budget c.args.core c.agenda_by.new.core c.explore.new.core c.in_ok-agenda.ensures.quiet c.in_ok-whole.ensures.run
    ∙ c.requires.instance

pub returns-in_err-set_earliest : goal.returns-in_err-set_earliest
returns-in_err-set_earliest g c =
    let failed = err_from_is_err_and c.from_residual-in_err-set_earliest.result c.from_residual-in_err-set_earliest.ensures.1 in
    rw failed.1 tt

pub same-core-3 : goal.same-core-3
same-core-3 g c = refl

pub returns-in_err-join_best : goal.returns-in_err-join_best
returns-in_err-join_best g c =
    let failed = err_from_is_err_and c.from_residual-in_err-join_best.result c.from_residual-in_err-join_best.ensures.1 in
    rw failed.1 tt

pub same-core-4 : goal.same-core-4
same-core-4 g c = refl

pub sweep-requires : goal.sweep-requires
sweep-requires g c =
    IsSearching-replans c.set_earliest.new.core c.join_best.new.core c.explore.new.agenda c.in_ok-join_best.ensures.replans
    (IsSearching-replans c.explore.new.core c.set_earliest.new.core c.explore.new.agenda c.in_ok-set_earliest.ensures.replans
    c.in_ok-whole.ensures.searching)

pub returns-in_err-sweep : goal.returns-in_err-sweep
returns-in_err-sweep g c =
    let failed = err_from_is_err_and c.from_residual-in_err-sweep.result c.from_residual-in_err-sweep.ensures.1 in
    rw failed.1 tt

pub same-core-then-whole : goal.same-core-then-whole
same-core-then-whole g c = refl

pub returns-then-whole : goal.returns-then-whole
returns-then-whole g c = (
  EndsAt-swept c.args.budget c.args.core c.agenda_by.new.core c.explore.new.core c.set_earliest.new.core c.join_best.new.core c.sweep.new.core
      c.sweep.new.agenda c.in_ok-agenda.ensures.quiet c.in_ok-whole.ensures.run c.in_ok-set_earliest.ensures.replans
      c.in_ok-set_earliest.ensures.earliest c.in_ok-join_best.ensures.replans c.in_ok-join_best.ensures.joined c.in_ok-join_best.ensures.earliest
      c.in_ok-sweep.ensures.quiet c.in_ok-sweep.ensures.fades c.in_ok-sweep.ensures.plan c.in_ok-sweep.ensures.searching c.in_ok-sweep.ensures.bounds,
  IsClosed-swept c.args.budget c.args.core c.agenda_by.new.core c.explore.new.core c.set_earliest.new.core c.join_best.new.core c.sweep.new.core
      c.sweep.new.agenda c.in_ok-agenda.ensures.quiet c.in_ok-whole.ensures.run c.in_ok-set_earliest.ensures.replans
      c.in_ok-set_earliest.ensures.earliest c.in_ok-join_best.ensures.replans c.in_ok-join_best.ensures.joined c.in_ok-join_best.ensures.earliest
      c.in_ok-sweep.ensures.quiet c.in_ok-sweep.ensures.fades c.in_ok-sweep.ensures.plan c.in_ok-sweep.ensures.searching c.in_ok-sweep.ensures.bounds
      (c.in_ok-whole.ensures.whole c.if-whole.true),
)

pub same-core-5 : goal.same-core-5
same-core-5 g c = refl

pub explore-requires-2-clause-searching : goal.explore-requires-2-clause-searching
explore-requires-2-clause-searching g c = c.in_ok-sweep.ensures.searching

pub explore-requires-2-clause-budget : goal.explore-requires-2-clause-budget
explore-requires-2-clause-budget g c = c.requires.budget

pub returns-in_err-explore : goal.returns-in_err-explore
returns-in_err-explore g c =
    let failed = err_from_is_err_and c.from_residual-in_err-explore.result c.from_residual-in_err-explore.ensures.1 in
    rw failed.1 tt

pub same-core-then-branch : goal.same-core-then-branch
same-core-then-branch g c = refl

pub returns-then-branch : goal.returns-then-branch
returns-then-branch g c =
    let spent : c.args.budget ≤ count_of c.sweep.new.core.state =
    still_spent c.args.budget c.args.core c.agenda_by.new.core c.explore.new.core c.set_earliest.new.core c.join_best.new.core c.sweep.new.core
    c.sweep.new.agenda c.in_ok-agenda.ensures.quiet c.in_ok-whole.ensures.run c.in_ok-set_earliest.ensures.replans
    c.in_ok-set_earliest.ensures.earliest c.in_ok-join_best.ensures.replans c.in_ok-join_best.ensures.joined c.in_ok-join_best.ensures.earliest
    c.in_ok-sweep.ensures.quiet c.in_ok-sweep.ensures.fades c.in_ok-sweep.ensures.plan c.in_ok-sweep.ensures.searching c.in_ok-sweep.ensures.bounds
    (c.in_ok-whole.ensures.«open» c.if-whole.false).1 in
    let same : c.explore-2.new.core ≡ c.sweep.new.core = c.in_ok-explore.ensures.still spent in
    IsClosed-again c.args.budget c.args.core c.agenda_by.new.core c.explore.new.core c.set_earliest.new.core c.join_best.new.core c.sweep.new.core
    c.sweep.new.agenda c.in_ok-agenda.ensures.quiet c.in_ok-whole.ensures.run c.in_ok-set_earliest.ensures.replans
    c.in_ok-set_earliest.ensures.earliest c.in_ok-join_best.ensures.replans c.in_ok-join_best.ensures.joined c.in_ok-join_best.ensures.earliest
    c.in_ok-sweep.ensures.quiet c.in_ok-sweep.ensures.fades c.in_ok-sweep.ensures.plan c.in_ok-sweep.ensures.searching c.in_ok-sweep.ensures.bounds
    c.explore-2.new.core same (c.in_ok-explore.ensures.whole c.if-branch.true)

pub same-core-else-branch : goal.same-core-else-branch
same-core-else-branch g c = refl

pub returns : goal.returns
returns g c =
    let spent : c.args.budget ≤ count_of c.sweep.new.core.state =
    still_spent c.args.budget c.args.core c.agenda_by.new.core c.explore.new.core c.set_earliest.new.core c.join_best.new.core c.sweep.new.core
    c.sweep.new.agenda c.in_ok-agenda.ensures.quiet c.in_ok-whole.ensures.run c.in_ok-set_earliest.ensures.replans
    c.in_ok-set_earliest.ensures.earliest c.in_ok-join_best.ensures.replans c.in_ok-join_best.ensures.joined c.in_ok-join_best.ensures.earliest
    c.in_ok-sweep.ensures.quiet c.in_ok-sweep.ensures.fades c.in_ok-sweep.ensures.plan c.in_ok-sweep.ensures.searching c.in_ok-sweep.ensures.bounds
    (c.in_ok-whole.ensures.«open» c.if-whole.false).1 in
    let same : c.explore-2.new.core ≡ c.sweep.new.core = c.in_ok-explore.ensures.still spent in
    IsSpent-again c.args.budget c.args.core c.agenda_by.new.core c.explore.new.core c.set_earliest.new.core c.join_best.new.core c.sweep.new.core
    c.sweep.new.agenda c.in_ok-agenda.ensures.quiet c.in_ok-whole.ensures.run c.in_ok-set_earliest.ensures.replans
    c.in_ok-set_earliest.ensures.earliest c.in_ok-join_best.ensures.replans c.in_ok-join_best.ensures.joined c.in_ok-join_best.ensures.earliest
    c.in_ok-sweep.ensures.quiet c.in_ok-sweep.ensures.fades c.in_ok-sweep.ensures.plan c.in_ok-sweep.ensures.searching c.in_ok-sweep.ensures.bounds
    c.explore-2.new.core same (c.in_ok-explore.ensures.«open» c.if-branch.false).0 (c.in_ok-explore.ensures.«open» c.if-branch.false).1
