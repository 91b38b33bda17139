use Rattle.std.proofs.Common.{◌≡◌, ◌∙◌, List, IfOk, sym, subst}
use Rattle.std.specs.List.{All}
use Rattle.board.specs.Passes.{BoardName}
use Rattle.pool.proofs.Crews.{ready_labels, ready_order}
use Rattle.pool.specs.Lanes.{LaneName, IsLaneOf}
use Rattle.pool.proofs.rounds.extend_ready.Goals as goal

pub take_ready-requires : goal.take_ready-requires
take_ready-requires g c = subst (λ (b : BoardName). All (IsLaneOf b) c.args.lanes.items) (sym c.board-board.ensures) c.requires.lanes

pub take_ready-requires-2 : goal.take_ready-requires-2
take_ready-requires-2 g c =
    subst (λ (l : List LaneName). All (IsLaneOf c.board-board.result.now) l) (sym c.take_ready.ensures.lanes)
    (subst (λ (b : BoardName). All (IsLaneOf b) c.args.lanes.items) (sym c.board-board.ensures) c.requires.lanes)

pub carry_out-requires-clause-lanes : goal.carry_out-requires-clause-lanes
carry_out-requires-clause-lanes g c κs within =
    subst (λ (b : BoardName). All (IsLaneOf b) c.take_ready-2.new.lanes.items) (sym (λ i. (c.offer_best.ensures i).board))
    (subst (λ (l : List LaneName). All (IsLaneOf c.args.crew.now.board) l) (sym (c.take_ready-2.ensures.lanes ∙ c.take_ready.ensures.lanes)) c.requires.lanes)

pub returns-clause-crew : goal.returns-clause-crew
returns-clause-crew g c = c.carry_out.ensures.crew ∙ c.offer_best.ensures

pub returns-clause-lanes : goal.returns-clause-lanes
returns-clause-lanes g c =
    subst (λ (b : BoardName). IfOk c.carry_out.result (λ lanes. All (IsLaneOf b) lanes.items)) (λ i. (c.offer_best.ensures i).board) c.carry_out.ensures.lanes

pub offer_best-requires-clause-labels : goal.offer_best-requires-clause-labels
offer_best-requires-clause-labels g c κs within =
    ready_labels c.args.crew.now.board c.board-board.result.now c.deref.result.now c.in_ok-forward.forward.items c.board-board.ensures c.deref.ensures.value
    c.in_ok-forward.ensures.labels

pub carry_out-requires-clause-order : goal.carry_out-requires-clause-order
carry_out-requires-clause-order g c κs within =
    ready_order c.args.crew.now.board c.board-board.result.now c.offer_best.new.self.board c.in_ok-forward.forward.items c.in_ok-backward.backward.items
    c.deref-2.result.now c.deref-3.result.now c.board-board.ensures (λ i. (c.offer_best.ensures i).board) c.deref-2.ensures.value c.deref-3.ensures.value
    c.in_ok-forward.ensures.labels c.in_ok-backward.ensures.labels
