use Rattle.std.proofs.Common.{◌==◌, refl, sym, true≢false, arith}
use Rattle.label.proofs.Outlines.{IsOutline, Dominates-gain, sum_decides, not_in_first}
use Rattle.std.proofs.lemmas.Bool.{eqb-true, not-false}
use Rattle.strip_model.specs.Directed.{has}
use Rattle.label.proofs.outline.outline_dominates.Goals as goal

pub returns-then-b-a-2 : goal.returns-then-b-a-2
returns-then-b-a-2 c path_b path_a is_b is_a of_b of_a = (
  λ t. absurd (true≢false (sym t)),
  λ dom. absurd (omega (arith, Dominates-gain c.args.side.now.instance path_b path_a dom, of_b.gain, of_a.gain, c.if-b-a-2.true)),
)

pub returns-then-eq : goal.returns-then-eq
returns-then-eq c path_b path_a is_b is_a of_b of_a =
    let J = c.args.side.now.instance in
    let b = c.args.b.now in
    let a = c.args.a.now in
    let ob : IsOutline J path_b b.start b.last b.visited b.needs = record { in_time = is_b.in_time; at = of_b.at; visited = of_b.visited; needed = of_b.needs } in
    let oa : IsOutline J path_a a.start a.last a.visited a.needs = record { in_time = is_a.in_time; at = of_a.at; visited = of_a.visited; needed = of_a.needs } in
    let decides = sum_decides J path_b path_a b.start b.last a.start a.last b.visited b.needs a.visited a.needs a.reach ob oa of_a.reach
    (eqb-true b.last a.last (not-false (b.last == a.last) (sym c.if-ne.ensures))) (omega (arith, c.if-b-a.false))
    (λ i there. not_in_first (has i b.visited) (has i a.reach) (c.if-not-disjoint.ensures.apart i) there)
    (c.if-eq.ensures.members.0 refl) in
    (λ t. decides.0 (c.gains_no_less.ensures.0 t), λ dom. c.gains_no_less.ensures.1 (decides.1 dom))
