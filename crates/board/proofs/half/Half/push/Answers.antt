use Rattle.board.proofs.Hands.{pushes, learns}
use Rattle.board.proofs.half.Half.push.Goals as goal

pub push_as-requires-clause-rule : goal.push_as-requires-clause-rule
push_as-requires-clause-rule g c = (pushes _ _ _ _ c.token.invariant.some_weight, learns _ _)
