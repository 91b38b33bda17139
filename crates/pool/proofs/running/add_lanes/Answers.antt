use Rattle.std.proofs.Common.{◌≡◌, ◌∙◌, ap, sym, subst}
use Rattle.std.proofs.lemmas.List.Elements.{All-push}
use Rattle.std.specs.List.{All}
use Rattle.board.specs.Passes.{side_at}
use Rattle.pool.specs.Lanes.{LaneName, IsLaneOf}
use Rattle.strip_model.specs.Side.{Face}
use Rattle.strip_model.specs.declared.end.End.{End}
use Rattle.pool.proofs.running.add_lanes.Goals as goal

pub loop-number-preserved : goal.loop-number-preserved
loop-number-preserved c =
    let b = c.args.board.now in
    let e = c.args.end in
    let side : c.new.result.side ≡ side_at b e = ap (λ (l : LaneName). l.side) c.new.ensures ∙ c.side.ensures in
    let end : c.new.result.side.end ≡ e = ap (λ (S : Face). S.end) side ∙ c.requires.end in
    subst (All (IsLaneOf b)) (sym c.in_ok-push.ensures.items)
    (All-push (IsLaneOf b) c.loop-number.lanes.items c.new.result c.loop-number.invariant (side ∙ ap (λ (f : End). side_at b f) (sym end)))
