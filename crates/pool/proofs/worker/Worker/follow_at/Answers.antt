use Rattle.std.proofs.Common.{◌<◌, ◌∙◌, List, length, sym, subst, arith}
use Rattle.std.specs.List.{All}
use Rattle.pool.proofs.Crews.{put_back, all_at, order_at, same_worker}
use Rattle.pool.specs.Lanes.{LaneName, IsLaneOf}
use Rattle.pool.proofs.worker.Worker.follow_at.Goals as goal

pub follow-requires-clause-lane : goal.follow-requires-clause-lane
follow-requires-clause-lane g c =
    let lanes = c.self.inside.lanes in
    let within : c.args.k < length lanes.items = (let a = c.len.ensures in let d = lanes.ok.0 in omega (arith, c.if-k-len.false)) in
    all_at (IsLaneOf c.self.inside.post.board.now) lanes.items c.args.k c.index_mut.result.now within c.index_mut.ensures.value c.self.invariant.1

pub follow-requires-clause-order : goal.follow-requires-clause-order
follow-requires-clause-order g c = order_at c.args.self.now.board c.self.inside.post.board.now c.args.order.now (λ i. (c.self.view_is i).board) c.requires

pub invariant_of-self : goal.invariant_of-self
invariant_of-self g c = (
  c.follow.ensures.acts.works.grows.board ∙ c.self.invariant.0,
  subst (λ (l : List LaneName). All (IsLaneOf c.self.inside.post.board.now) l)
      (sym (put_back c.self.inside.lanes.items c.args.k c.index_mut.result.now c.follow.new.lane c.index_mut.ensures.value c.follow.ensures.lane)) c.self.invariant.1,
)

pub returns : goal.returns
returns g c =
    same_worker _ c.args.self.now (λ i. (c.self.view_is i).board) (c.follow.ensures.acts.works.weight ∙ (λ i. (c.self.view_is i).weight))
