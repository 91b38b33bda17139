use Rattle.std.proofs.Common.{refl, ◌∙◌}
use Rattle.joiner.proofs.Tipping.{meet_gain-set}
use Rattle.joiner.proofs.matching.matching.Goals as goal

pub returns : goal.returns
returns c =
    let J = c.args.instance.now in
    let f = c.args.f.now in
    let b = c.args.b.now in (
      record {
        apart = c.if-not-are_apart.ensures.0 refl;
        twins = c.if-not-wait_for_the_same.ensures.0 refl;
        in_time = c.requires;
      },
      c.gain_of_strips.ensures.value
          ∙ meet_gain-set J f b c.strips_at.result c.strips_at-2.result c.join-both.result c.strips_at.ensures c.strips_at-2.ensures c.join-both.ensures.members,
    )
