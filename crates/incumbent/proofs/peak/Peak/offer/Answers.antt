use Rattle.std.proofs.Common.{arith}
use Rattle.incumbent.proofs.Keeps.{offers}
use Rattle.incumbent.proofs.peak.Peak.offer.Goals as goal

pub fetch_max-old-requires : goal.fetch_max-old-requires
fetch_max-old-requires g c =
    let one = c.args.self.now.one_word in
    let share = c.args.share.now in
    let is = share.weighs in
    let some_weight = share.weighs_something in
    (c.requires.own, omega arith, offers _ _ _ _ (omega arith))
