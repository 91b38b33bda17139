use Rattle.std.proofs.Common.{arith}
use Rattle.incumbent.proofs.Keeps.{sees}
use Rattle.incumbent.proofs.peak.Peak.see.Goals as goal

pub load-requires : goal.load-requires
load-requires g c =
    let one = c.args.self.now.one_word in
    let share = c.args.share.now in
    let is = share.weighs in
    let some_weight = share.weighs_something in
    (c.requires.own, omega arith, sees _ _ _ (omega arith))
