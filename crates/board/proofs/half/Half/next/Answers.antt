use Rattle.board.proofs.Hands.{gives, learns}
use Rattle.board.proofs.half.Half.next.Goals as goal

pub pop_as-requires-clause-rule : goal.pop_as-requires-clause-rule
pop_as-requires-clause-rule g c = (gives _ _ c.token.invariant.some_weight, learns _ _)
