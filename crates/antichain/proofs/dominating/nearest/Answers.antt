use Rattle.std.proofs.Common.{◌-◌, ◌<◌, length, get_or, ap, subst, arith}
use Rattle.std.proofs.lemmas.List.{get_or_default}
use Rattle.antichain.proofs.Judgements.{granted}
use Rattle.antichain.specs.Judging.{Accepted}
use Rattle.antichain.specs.declared.member.Member.{Member}
use Rattle.antichain.proofs.dominating.nearest.Goals as goal

pub returns-then-outline_dominates : goal.returns-then-outline_dominates
returns-then-outline_dominates c =
    let S = c.args.side.now in
    let outline = c.args.outline.now in
    let ms = c.args.members.now in
    let m = c.index-members-k.result in
    let inside = c.loop-k.invariant.inside in
    let some = c.loop-k-test.true in
    let there : c.loop-k.k - 1 < length ms = omega arith in
    record {
      at = c.loop-k.k - 1;
      there = there;
      is = λ d. ap (λ (n : Member). n.id) (get_or_default ms (c.loop-k.k - 1) d c.index-members-k-then-outline_dominates.result there);
      accepted =
          λ d. subst (λ (n : Member). Accepted S outline n) (get_or_default ms (c.loop-k.k - 1) m d there)
          (granted S (get_or ms (c.loop-k.k - 1) m).outline outline c.if-outline_dominates.ensures);
    }
