use Rattle.std.proofs.Common.{◌≡◌, ◌==◌, true, refl, sym, ◌∙◌, true≢false, arith}
use Rattle.std.proofs.lemmas.Bool.{eqb-true, not-false, both_ways}
use Rattle.label.proofs.Members.{has_strip-same}
use Rattle.label.proofs.Outlines.{IsOutline, in_reach-apart, sum_decides, not_in_first}
use Rattle.label.proofs.PathAreas.{reaches_strip-set}
use Rattle.label.specs.Outlines.{reaches_strip}
use Rattle.strip_model.specs.Directed.{has, has_strip}
use Rattle.label.proofs.dominance.brief_dominates.Goals as goal

pub returns-then-not-disjoint : goal.returns-then-not-disjoint
returns-then-not-disjoint c = λ path_b path_a is_b is_a of_b of_a.
    let J = c.args.side.now.instance in
    let common = c.if-not-disjoint.ensures.common in
    let stands : has_strip common.0 path_b ≡ true =
    sym (c.strips-visited.ensures.strips common.0 ∙ has_strip-same c.args.b.now.visited path_b of_b.visited common.0) ∙ common.1 in
    let reached : reaches_strip J path_a common.0 ≡ true =
    sym (c.strips-reach.ensures.strips common.0 ∙ reaches_strip-set J path_a c.reach_of.result (c.reach_of.ensures path_a of_a) common.0) ∙ common.2 in (
      λ t. absurd (true≢false (sym t)),
      λ dom. absurd (both_ways (has_strip common.0 path_b) (in_reach-apart J path_b path_a dom.apart common.0 reached) stands),
    )

pub returns-then-eq : goal.returns-then-eq
returns-then-eq c = λ path_b path_a is_b is_a of_b of_a.
    let J = c.args.side.now.instance in
    let b = c.args.b.now in
    let a = c.args.a.now in
    let vb = c.strips-visited.result in
    let va = c.strips.result in
    let ob : IsOutline J path_b b.start b.last vb c.needs_of.result = record {
      in_time = is_b.in_time;
      at = of_b.at;
      visited = λ i. c.strips-visited.ensures.strips i ∙ has_strip-same b.visited path_b of_b.visited i;
      needed = c.needs_of.ensures path_b of_b;
    } in
    let oa : IsOutline J path_a a.start a.last va c.needs_of-2.result = record {
      in_time = is_a.in_time;
      at = of_a.at;
      visited = λ i. c.strips.ensures.strips i ∙ has_strip-same a.visited path_a of_a.visited i;
      needed = c.needs_of-2.ensures path_a of_a;
    } in
    let decides = sum_decides J path_b path_a b.start b.last a.start a.last vb c.needs_of.result va c.needs_of-2.result c.strips-reach.result ob oa
    (λ i. c.strips-reach.ensures.strips i ∙ reaches_strip-set J path_a c.reach_of.result (c.reach_of.ensures path_a of_a) i)
    (eqb-true b.last a.last (not-false (b.last == a.last) (sym c.if-ne.ensures)))
    (omega (arith, c.if-b-a.false))
    (λ i there. not_in_first (has i vb) (has i c.strips-reach.result) (c.if-not-disjoint.ensures.apart i) there)
    (c.if-eq.ensures.members.0 refl) in
    (λ t. decides.0 (c.gains_no_less.ensures.0 t), λ dom. c.gains_no_less.ensures.1 (decides.1 dom))

pub returns-else-eq : goal.returns-else-eq
returns-else-eq c = λ path_b path_a is_b is_a of_b of_a. (
  λ t. absurd (true≢false (sym t ∙ c.if-eq.false)),
  λ dom. c.eq.ensures.members.1 (λ z. c.needs_of.ensures path_b of_b z ∙ dom.same_needs z ∙ sym (c.needs_of-2.ensures path_a of_a z)),
)
