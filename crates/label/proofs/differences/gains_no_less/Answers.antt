use Rattle.std.proofs.Common.{refl, ◌∙◌, length, arith}
use Rattle.std.proofs.lemmas.Int.{ints}
use Rattle.label.proofs.SetDifferences.{int_sum_below-zero, set_difference-none, set_difference_same, area_where_same, at_least_zero}
use Rattle.label.specs.Gaining.{set_area, set_room, set_difference}
use Rattle.strip_model.specs.Directed.{has}
use Rattle.std.proofs.Common.{Bool, ◌&&◌, not, ap}
use Rattle.label.proofs.differences.gains_no_less.Goals as goal

pub returns-then-eq : goal.returns-then-eq
returns-then-eq c =
    let J = c.args.side.now.instance in
    let b = c.args.b in
    let a = c.args.a in
    let reach = c.args.reach in
    let none = int_sum_below-zero (length J.requests) (set_difference J b a (set_room J b a reach))
    (λ r l. set_difference-none J b a (set_room J b a reach) r (area_where_same J r (λ i. has i b) (λ i. has i a) (c.if-eq.ensures.members.0 refl))) in
    (λ t. rw none (omega (arith, ints)), λ t. refl)

pub returns : goal.returns
returns c =
    let J = c.args.side.now.instance in
    let b = c.args.b in
    let a = c.args.a in
    let reach = c.args.reach in
    let d = c.least_difference.ensures in
    at_least_zero c.least_difference.result _
    (d.value ∙ set_difference_same J b a (set_area J c.minus-2.result) (set_room J b a reach)
    (λ r. area_where_same J r (λ i. has i c.minus-2.result) (λ i. (has i reach && not (has i b)) && not (has i a))
    (λ i. c.minus-2.ensures.members i ∙ ap (λ (t : Bool). t && not (has i a)) (c.minus.ensures.members i))))
    d.at_least d.at_most
