use Rattle.std.proofs.Common.{List, length, ap, subst, arith}
use Rattle.closer.proofs.Admissions.{IsParent-still, count-admitted}
use Rattle.closer.proofs.Carefulness.{InsertsWithCare-extending}
use Rattle.closer.proofs.Extensions.{IsExtending-grows}
use Rattle.closer.proofs.JoinedWaits.{bucket_small}
use Rattle.closer.specs.NewWaits.{WaitsIfLive}
use Rattle.closer.specs.declared.wait.Wait.{Wait}
use Rattle.closer.specs.declared.agenda.Agenda.{Agenda}
use Rattle.label_core.specs.Machine.{new_id}
use Rattle.admission.proofs.CarefulSteps.{IsOrderly-reached}
use Rattle.closer.proofs.growing.enter.Goals as goal

pub wait_for-requires : goal.wait_for-requires
wait_for-requires c =
    bucket_small c.args.core.now.state c.settle.new.core.state c.args.label.end c.args.label.path.items c.in_ok-id.id c.in_ok-id.ensures.lives

pub returns-clause-run : goal.returns-clause-run
returns-clause-run c = λ budget room.
    let at = c.requires.extending in
    c.in_ok-id.ensures.run budget
    (InsertsWithCare-extending budget c.args.core.now c.args.agenda.now at.0 at.1 c.args.label.end c.args.label.path.items at.2 at.4.side at.3 room)

pub returns-clause-extending : goal.returns-clause-extending
returns-clause-extending c = λ now y h is label.
    let b : Agenda = record { forward = c.settle.new.agenda.forward; backward = c.settle.new.agenda.backward; queue = c.wait_for.new.queue } in
    IsExtending-grows c.args.core.now c.settle.new.core c.args.agenda.now b now y c.args.label c.waiting_rank-rank.result c.in_ok-id.ensures.admits
    (subst
    (λ (ws : List Wait).
    WaitsIfLive c.settle.new.core.state (new_id c.args.core.now.state c.args.label.end c.args.label.path.items) c.waiting_rank-rank.result ws
    c.wait_for.new.queue)
    c.in_ok-id.ensures.queue
    (c.in_ok-wait_for.ensures c.settle.new.core.state (new_id c.args.core.now.state c.args.label.end c.args.label.path.items) c.in_ok-id.ensures.lives))
    c.waiting_rank-rank.ensures is label h c.gain.ensures.reached c.in_ok-id.ensures.forward c.in_ok-id.ensures.backward

pub returns-clause-parents : goal.returns-clause-parents
returns-clause-parents c = λ now parent names h.
    IsParent-still c.args.core.now c.settle.new.core c.args.label.end c.args.label.path.items c.in_ok-id.ensures.admits now parent names h

pub returns-clause-count : goal.returns-clause-count
returns-clause-count c =
    let at = c.requires.extending in
    count-admitted c.args.core.now c.settle.new.core c.args.label.end c.args.label.path.items
    (IsOrderly-reached c.args.core.now at.2.next.keeps.reached) (IsOrderly-reached c.settle.new.core c.gain.ensures.reached) c.in_ok-id.ensures.admits

pub returns-clause-queue : goal.returns-clause-queue
returns-clause-queue c =
    omega (
      arith,
      (c.in_ok-wait_for.ensures c.settle.new.core.state (new_id c.args.core.now.state c.args.label.end c.args.label.path.items) c.in_ok-id.ensures.lives).len,
      ap (λ (ws : List Wait). length ws) c.in_ok-id.ensures.queue,
    )
