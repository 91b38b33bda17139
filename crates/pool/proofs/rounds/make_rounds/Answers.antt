use Rattle.std.proofs.Common.{◌≡◌, ◌∙◌, ap, sym, subst}
use Rattle.std.specs.List.{All}
use Rattle.board.specs.Passes.{BoardName}
use Rattle.pool.specs.Lanes.{IsLaneOf}
use Rattle.strip_model.specs.Side.{Face}
use Rattle.strip_model.specs.declared.end.End.TheVariants.{Forward}
use Rattle.pool.proofs.rounds.make_rounds.Goals as goal

pub carry_out-requires-clause-lanes : goal.carry_out-requires-clause-lanes
carry_out-requires-clause-lanes g c κs within =
    let board : c.loop.crew.board ≡ c.args.board.now = (λ i. (c.loop.invariant.0 i).board) ∙ c.requires.crew in
    subst (λ (b : BoardName). All (IsLaneOf b) c.loop.lanes.items) (sym board) c.loop.invariant.1

-- a side of the board is one of its instance, and its end is the one that it is at
pub extend_ready-requires-clause-forward : goal.extend_ready-requires-clause-forward
extend_ready-requires-clause-forward g c κs within =
    let board : c.carry_out.new.self.board ≡ c.args.board.now = (λ i. (c.carry_out.ensures.crew i).board) ∙ (λ i. (c.loop.invariant.0 i).board) ∙ c.requires.crew in
    subst (λ (b : BoardName). b.forward.side.end ≡ Forward) (sym board) (ap (λ (S : Face). S.end) c.requires.sides.0)

pub extend_ready-requires-clause-lanes : goal.extend_ready-requires-clause-lanes
extend_ready-requires-clause-lanes g c κs within =
    subst (λ (b : BoardName). All (IsLaneOf b) c.in_ok-readied.readied.items) (sym (λ i. (c.carry_out.ensures.crew i).board)) c.in_ok-readied.ensures.lanes

pub loop-preserved : goal.loop-preserved
loop-preserved g c =
    let board : c.carry_out.new.self.board ≡ c.args.board.now = (λ i. (c.carry_out.ensures.crew i).board) ∙ (λ i. (c.loop.invariant.0 i).board) ∙ c.requires.crew in (
      c.extend_ready.ensures.crew ∙ c.carry_out.ensures.crew ∙ c.loop.invariant.0,
      subst (λ (b : BoardName). All (IsLaneOf b) c.in_ok-extended.extended.items) board c.in_ok-extended.ensures.lanes,
    )

pub returns-in_err-readied : goal.returns-in_err-readied
returns-in_err-readied g c = c.carry_out.ensures.crew ∙ c.loop.invariant.0

pub returns-in_err-extended : goal.returns-in_err-extended
returns-in_err-extended g c = c.extend_ready.ensures.crew ∙ c.carry_out.ensures.crew ∙ c.loop.invariant.0
