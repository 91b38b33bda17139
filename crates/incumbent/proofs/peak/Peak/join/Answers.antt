use Rattle.std.proofs.Common.{arith, ap, ◌∙◌}
use Rattle.atomic_table.specs.Table.{Me}
use Rattle.incumbent.specs.declared.knowledge.Knowledge.{Knowledge}
use Rattle.incumbent.proofs.Keeps.{joins, weighs}
use Rattle.incumbent.proofs.peak.Peak.join.Goals as goal

pub join_seat-requires : goal.join_seat-requires
join_seat-requires g c =
    let one = c.args.self.now.one_word in
    let into = c.args.into.now in
    let is = into.weighs in
    let some_weight = into.weighs_something in
    (c.requires.own, c.requires.other, c.args.other.holds_no_slot, omega arith, joins _ _ _ _ (omega arith))

pub load-requires : goal.load-requires
load-requires g c =
    let one = c.args.self.now.one_word in
    let into = c.args.into.now in
    let is = into.weighs in
    let some_weight = into.weighs_something in
    let joined = c.join_seat.ensures in
    let sum = ap (λ (me : Me (Unit {0}) Knowledge). me.0.weight) joined.2 in
    (joined.0 ∙ c.requires.own, omega arith, weighs _ _ _ (omega arith))
