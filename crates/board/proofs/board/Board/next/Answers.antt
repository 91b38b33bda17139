use Rattle.board.proofs.Hearing.{next_heard}
use Rattle.board.proofs.board.Board.next.Goals as goal

pub returns : goal.returns
returns g c = next_heard c.args.end c.args.pass.now c.next_of-id.new.pass c.hear.new.self c.next_of-id.result c.next_of-id.ensures c.hear.ensures
