use Rattle.std.proofs.Common.{sym, subst}
use Rattle.std.proofs.lemmas.List.Elements.{All-push}
use Rattle.std.specs.List.{All}
use Rattle.pool.proofs.Crews.{lane_at}
use Rattle.pool.specs.Lanes.{IsLaneOf}
use Rattle.pool.proofs.worker.Worker.take.Goals as goal

pub invariant_of-self-2 : goal.invariant_of-self-2
invariant_of-self-2 g c =
    let b = c.self.inside.post.board.now in (
      c.self.invariant.0,
      subst (All (IsLaneOf b)) (sym c.in_ok-push.ensures.items)
          (All-push (IsLaneOf b) c.self.inside.lanes.items c.args.lane c.self.invariant.1 (lane_at c.args.self.now.board b c.args.lane (λ i. (c.self.view_is i).board) c.requires)),
    )
