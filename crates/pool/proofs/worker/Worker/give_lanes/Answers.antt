use Rattle.std.proofs.Common.{sym, subst}
use Rattle.std.specs.List.{All}
use Rattle.board.specs.Passes.{BoardName}
use Rattle.pool.specs.Lanes.{IsLaneOf}
use Rattle.pool.proofs.worker.Worker.give_lanes.Goals as goal

pub invariant_of-self : goal.invariant_of-self
invariant_of-self g c =
    let given = subst (λ (b : BoardName). All (IsLaneOf b) c.args.lanes.now.items) (sym (λ i. (c.self.view_is i).board)) c.requires in
    (c.self.invariant.0, (c.move_all.ensures c.self.inside.post.board.now c.self.invariant.1 given).0)

pub invariant_of-self-2 : goal.invariant_of-self-2
invariant_of-self-2 g c =
    let given = subst (λ (b : BoardName). All (IsLaneOf b) c.args.lanes.now.items) (sym (λ i. (c.self.view_is i).board)) c.requires in
    (c.self.invariant.0, (c.move_all.ensures c.self.inside.post.board.now c.self.invariant.1 given).0)

pub returns-clause-lanes : goal.returns-clause-lanes
returns-clause-lanes g c =
    let given = subst (λ (b : BoardName). All (IsLaneOf b) c.args.lanes.now.items) (sym (λ i. (c.self.view_is i).board)) c.requires in
    subst (λ (b : BoardName). All (IsLaneOf b) c.move_all.new.into.items) (λ i. (c.self.view_is i).board) (c.move_all.ensures c.self.inside.post.board.now c.self.invariant.1 given).1

pub returns-in_err-move_all-clause-lanes : goal.returns-in_err-move_all-clause-lanes
returns-in_err-move_all-clause-lanes g c =
    let given = subst (λ (b : BoardName). All (IsLaneOf b) c.args.lanes.now.items) (sym (λ i. (c.self.view_is i).board)) c.requires in
    subst (λ (b : BoardName). All (IsLaneOf b) c.move_all.new.into.items) (λ i. (c.self.view_is i).board) (c.move_all.ensures c.self.inside.post.board.now c.self.invariant.1 given).1
