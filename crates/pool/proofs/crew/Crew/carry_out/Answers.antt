use Rattle.std.proofs.Common.{◌≡◌, ◌∙◌, List, sum_by, IfOk, ap, sym, subst}
use Rattle.std.specs.List.{All}
use Rattle.board.specs.Passes.{BoardName}
use Rattle.pool.proofs.Crews.{order_at}
use Rattle.pool.specs.Lanes.{IsLaneOf}
use Rattle.pool.specs.Workers.{WorkerName}
use Rattle.pool.proofs.crew.Crew.carry_out.Goals as goal

pub set_to_work-requires-clause-lanes : goal.set_to_work-requires-clause-lanes
set_to_work-requires-clause-lanes g c κs within = subst (λ (b : BoardName). All (IsLaneOf b) c.args.lanes.items) (sym (λ i. (c.self.view_is i).board)) c.requires.lanes

pub set_to_work-requires-clause-order : goal.set_to_work-requires-clause-order
set_to_work-requires-clause-order g c κs within =
    order_at c.args.self.now.board c.self.inside.board.now c.args.order.now (λ i. (c.self.view_is i).board) c.requires.order

pub collect-requires : goal.collect-requires
collect-requires g c =
    subst (λ (l : List WorkerName). All (λ w. w.board ≡ c.self.inside.board.now) l) (sym c.set_to_work.ensures) c.self.invariant

pub returns-clause-crew : goal.returns-clause-crew
returns-clause-crew g c =
    let view : List WorkerName → WorkerName = λ l. record { board = c.self.inside.board.now; weight = sum_by (λ w. w.weight) l } in
    ap view (c.collect.ensures.workers ∙ c.set_to_work.ensures) ∙ c.self.view_is

pub returns-clause-lanes : goal.returns-clause-lanes
returns-clause-lanes g c =
    subst (λ (b : BoardName). IfOk c.collect.result (λ lanes. All (IsLaneOf b) lanes.items)) (λ i. (c.self.view_is i).board) c.collect.ensures.lanes
