use Rattle.std.proofs.Common.{sym, subst}
use Rattle.bucket.specs.Buckets.{Bin}
use Rattle.board.proofs.turns.in_turn.Goals as goal

pub make-answer-requires : goal.make-answer-requires
make-answer-requires g c =
    let held = c.in_ok-held.held in
    subst (λ (b : Bin). g.C.Call.fits c.args.call b.side b.number) (sym c.value.ensures.value) (c.requires.fits held.side held.number c.in_ok-held.ensures.frame)
