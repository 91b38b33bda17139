use Rattle.std.proofs.Common.{◌≡◌, ◌∙◌, List, sym, subst}
use Rattle.std.specs.List.{All}
use Rattle.board.specs.Passes.{side_at}
use Rattle.label.specs.Labels.{IsLabelOf}
use Rattle.pool.proofs.Crews.{side_is}
use Rattle.strip_model.specs.Side.{Face}
use Rattle.pool.proofs.rounds.take_from.Goals as goal

pub move_ready-requires : goal.move_ready-requires
move_ready-requires c =
    let here : c.args.lane.now.side ≡ side_at c.args.board.now c.args.end =
    side_is c.args.board.now c.args.lane.now c.side.result.now c.end.result c.args.end c.requires.lane c.side.ensures c.end.ensures.value
    (c.in-Forward-Forward.is-0 ∙ sym c.in-Forward-Forward.is-1) in
    record { labels = subst (λ (S : Face). All (IsLabelOf S) c.args.labels.now.items) (sym here) c.requires.labels }

pub returns-in-Forward-Forward-clause-labels : goal.returns-in-Forward-Forward-clause-labels
returns-in-Forward-Forward-clause-labels c =
    let here : c.args.lane.now.side ≡ side_at c.args.board.now c.args.end =
    side_is c.args.board.now c.args.lane.now c.side.result.now c.end.result c.args.end c.requires.lane c.side.ensures c.end.ensures.value
    (c.in-Forward-Forward.is-0 ∙ sym c.in-Forward-Forward.is-1) in
    subst (λ (S : Face). All (IsLabelOf S) c.move_ready.new.labels.items) here c.move_ready.ensures.labels
