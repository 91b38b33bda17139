use Rattle.board.specs.Inside.{pass_of}
use Rattle.board.proofs.Boards.{closes}
use Rattle.incumbent.specs.Share.{plan_of, seen_by, weight_of, knowledge_of}
use Rattle.board.proofs.board.Board.close.Goals as goal

pub returns : goal.returns
returns c =
    let b = c.self.inside in
    let p = c.pass.inside in
    closes
    (record { instance = b.instance.now; forward = b.forward; backward = b.backward; peak = b.peak.table.shared.table_id; draws = b.draws })
    c.args.self
    (pass_of p.forward p.backward p.share.seat.table_id (plan_of p.share) (seen_by p.share) p.drawer p.asked (weight_of p.share))
    c.args.pass
    (record { plan = c.close-2.result; forward = c.close-3.result; backward = c.close-4.result })
    (knowledge_of p.share)
    c.self.view_is c.pass.view_is c.requires.board c.close-3.ensures.buckets c.close-4.ensures.buckets c.close-3.ensures.closed c.close-4.ensures.closed
    c.close-2.ensures.plan c.close-2.ensures.seen c.close-2.ensures.word
    (λ i. record { seen = p.share.seat.me.0.seen; offered = p.share.offers_its_plan i; weight = p.share.weighs i })
    c.close.ensures.numbers
